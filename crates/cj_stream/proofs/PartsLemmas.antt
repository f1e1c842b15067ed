-- A stream in parts, and one of which lines are left out.
use Rattle.cj_stream.proofs.Common.{Complete, End, IsCut, Kept, LimitPair, Line, List, NoLf, None, Option, Peaks, Rules, Some, [], ap, append-nil, append_assoc, arith, begun, closed, contents, ended_line, ending, ending_of, exact_peaks, filter, filter-append, first_content, flat_map, flat_map-append, good, good_from, greater_peaks, greatest, headed, held_length, is_feature, item_after, kept, kept_from, later_of, length, length-append, length-map, lines, map, map-append, max, moved_end, moved_report, nat_tests, option_map, output, raw_item, refl, refusal_in, reported, reported_from, sym, tree_nest, tree_size, unwrap_or, verdict, whole, ℕ, ◌++◌, ◌+◌, ◌∙◌, ◌∷◌, ◌≡◌, Bool, cond, is_kept, refusal_from, refusal_of, suc}
use Rattle.cj_stream.proofs.CutLemmas.{lines-more}
use Rattle.cj_stream.proofs.EngineLemmas.{same-peaks}
use Rattle.cj_stream.proofs.GoodLemmas.{complete-none, ending-refused, refusal-moved, good-moved, kept-moved, reported-moved}
use Rattle.cj_stream.proofs.LineLemmas.{lines-ended, whole-begun, closed-ended, lines-cut}
use Rattle.cj_stream.proofs.VerdictLemmas.{valid-first, good-all, good-append, good-stays, kept-append, refusal-append, refusal-stays, refusal-step, reported-append}
use Rattle.std.proofs.lemmas.List.{nil_from_length}
use Rattle.cj_stream.specs.Selection.{LeavesKept, all_lines, staying}

-- ---- a stream in parts: its lines, and what is said of them

-- ---- the lines of a part

-- behind whole lines none has begun
pub none-begun : (a : List ℕ) → whole a ≡ a → begun a ≡ []
none-begun a w =
    nil_from_length _
    (omega (arith, ap length (whole-begun a), ap length w, length-append (whole a) (begun a)))

pub lines-headed : (h s : List ℕ) → NoLf h → lines (headed h s) ≡ ended_line h ∷ lines s
lines-headed h s free = lines-ended h s free

pub lines-parts : (a b : List ℕ) → whole a ≡ a → lines (a ++ b) ≡ lines a ++ lines b
lines-parts a b w =
    lines-more a b ∙ rw (lines-cut a, none-begun a w, append-nil (map ended_line (closed a))) refl

-- ---- lines, and more lines, behind a header that is valid

module _ (rules : Rules) (l : Line) (valid : verdict rules [] l.content ≡ Kept) where
  pub kept-first : (zs : List Line) → kept_from rules [] (l ∷ zs) ≡ item_after rules [] l ∷ kept_from rules (l ∷ []) zs
  kept-first zs = rw valid

  pub kept-joined : (xs zs : List Line) → kept_from rules [] (l ∷ xs ++ zs) ≡ kept_from rules [] (l ∷ xs)
      ++ later_of (kept_from rules [] (l ∷ zs))
  kept-joined xs zs = kept-append rules [] (l ∷ xs) zs ∙ rw (kept-moved rules l xs zs, valid) refl

  pub reported-joined : (xs zs : List Line) → reported_from rules [] (l ∷ xs ++ zs) ≡ reported_from rules [] (l ∷ xs)
      ++ map (moved_report (length xs)) (reported_from rules [] (l ∷ zs))
  reported-joined xs zs = reported-append rules [] (l ∷ xs) zs ∙ rw (reported-moved rules l xs zs, valid) refl

  module _ (xs : List Line) (none : refusal_in rules (l ∷ xs) ≡ None) where
    pub refusal-joined : (zs : List Line)
        → refusal_in rules (l ∷ xs ++ zs) ≡ option_map (moved_end (length xs)) (refusal_in rules (l ∷ zs))
    refusal-joined zs = refusal-append rules [] (l ∷ xs) zs none ∙ rw (refusal-moved rules l xs zs, valid) refl

    pub good-joined : (zs : List Line) → good_from rules [] (l ∷ xs ++ zs) ≡ l ∷ xs
        ++ later_of (good_from rules [] (l ∷ zs))
    good-joined zs = good-append rules [] (l ∷ xs) zs none ∙ rw (good-moved rules l xs zs, valid) refl

-- ---- streams

moved-ending : (k : ℕ) (o : Option End) → unwrap_or (option_map (moved_end k) o) Complete
    ≡ moved_end k (unwrap_or o Complete)
moved-ending k None = refl
moved-ending k (Some x) = refl

module _ (rules : Rules) (h a : List ℕ) (cut : IsCut h a) where
  pub front-lines : lines (headed h a) ≡ ended_line h ∷ lines a
  front-lines = lines-headed h a cut.header

  pub all-lines : (b : List ℕ) → lines (headed h (a ++ b)) ≡ ended_line h ∷ lines a ++ lines b
  all-lines b = lines-headed h _ cut.header ∙ ap (λ z. ended_line h ∷ z) (lines-parts a b cut.lines)

  pub back-lines : (b : List ℕ) → lines (headed h b) ≡ ended_line h ∷ lines b
  back-lines b = lines-headed h b cut.header

  -- the first part is complete
  module _ (done : ending rules (headed h a) ≡ Complete) where
    pub front-none : refusal_in rules (ended_line h ∷ lines a) ≡ None
    front-none = let k = complete-none _ _ done in rw front-lines at k

    pub header-valid : verdict rules [] h ≡ Kept
    header-valid =
        valid-first _ _ h (refusal-step _
        _ front-none).0

    pub front-good : good rules (headed h a) ≡ ended_line h ∷ lines a
    front-good = ap (good_from rules []) front-lines ∙ good-all _ [] _ front-none

    module _ (b : List ℕ) where
      good-parts : good rules (headed h (a ++ b)) ≡ ended_line h ∷ lines a ++ later_of (good rules (headed h b))
      good-parts =
          rw (all-lines, back-lines)
          (good-joined _ _ header-valid _ front-none _)

      pub back-good : good rules (headed h b) ≡ ended_line h ∷ later_of (good rules (headed h b))
      back-good = rw (back-lines, header-valid)

      pub back-kept : kept rules (headed h b) ≡ item_after rules [] (ended_line h) ∷ later_of (kept rules (headed h b))
      back-kept = rw (back-good, header-valid)

      pub kept-parts : kept rules (headed h (a ++ b)) ≡ kept rules (headed h a) ++ later_of (kept rules (headed h b))
      kept-parts =
          rw (good-parts, front-good, back-good)
          (kept-joined _ _ header-valid _ _)

      pub output-parts : (rest : List ℕ) × (output rules (headed h b) ≡ headed h rest)
          × (output rules (headed h (a ++ b)) ≡ output rules (headed h a) ++ rest)
      output-parts =
          let later = later_of (kept rules (headed h b)) in (
            flat_map raw_item later,
            ap (flat_map raw_item) back-kept ∙ append_assoc h (10 ∷ []) (flat_map raw_item later),
            rw kept-parts (flat_map-append raw_item (kept rules (headed h a)) later),
          )

      pub ending-parts : ending rules (headed h (a ++ b)) ≡ moved_end (length (lines a)) (ending rules (headed h b))
      ending-parts =
          grind (
            arith,
            nat_tests,
            all-lines,
            back-lines,
            refusal-joined rules (ended_line h) header-valid (lines a) front-none (lines b),
            moved-ending (length (lines a)) (refusal_in rules (ended_line h ∷ lines b)),
          )

      pub reported-parts : reported rules (headed h (a ++ b)) ≡ reported rules (headed h a)
          ++ map (moved_report (length (lines a))) (reported rules (headed h b))
      reported-parts =
          rw (good-parts, front-good, back-good)
          (reported-joined _ _ header-valid _ _)

      -- ---- counts

      pub lines-counted : length (good rules (headed h (a ++ b))) + 1 ≡ length (good rules (headed h a))
          + length (good rules (headed h b))
      lines-counted =
          let later = later_of (good rules (headed h b)) in
          omega (
            arith,
            ap length good-parts,
            ap length front-good,
            ap length back-good,
            length-append (ended_line h ∷ lines a) later,
          )

      pub features-counted : length (filter is_feature (kept rules (headed h (a ++ b))))
          ≡ length (filter is_feature (kept rules (headed h a))) + length (filter is_feature (kept rules (headed h b)))
      features-counted =
          let first = kept rules (headed h a) in
          let later = later_of (kept rules (headed h b)) in
          ap (λ z. length (filter is_feature z)) kept-parts
          ∙ ap length (filter-append is_feature first later)
          ∙ length-append _ _
          ∙ ap (λ z. length (filter is_feature first) + length (filter is_feature z)) (sym back-kept)

      pub refused-counted : length (reported rules (headed h (a ++ b))) ≡ length (reported rules (headed h a))
          + length (reported rules (headed h b))
      refused-counted =
          let moved = moved_report (length (lines a)) in
          ap length reported-parts
          ∙ length-append _ _
          ∙ ap (λ n. length (reported rules (headed h a)) + n) (length-map _ _)

  -- the first part is refused
  module _ (b : List ℕ) where
    part-stays : (e : End) → refusal_in rules (ended_line h ∷ lines a) ≡ Some e
        → (ending rules (headed h (a ++ b)) ≡ ending rules (headed h a))
        × (good rules (headed h (a ++ b)) ≡ good rules (headed h a))
    part-stays e refused =
        let first = ended_line h ∷ lines a in (
          ending-refused rules (lines (headed h (a ++ b))) e
              (rw (all-lines b) (refusal-stays rules [] first (lines b) e refused))
              ∙ sym (ending-refused rules (lines (headed h a)) e (rw front-lines refused)),
          ap (good_from rules []) (all-lines b)
              ∙ good-stays rules [] first (lines b) e refused ∙ ap (good_from rules []) (sym front-lines),
        )

    pub refused-stays : ¬ (ending rules (headed h a) ≡ Complete)
        → (ending rules (headed h (a ++ b)) ≡ ending rules (headed h a))
        × (good rules (headed h (a ++ b)) ≡ good rules (headed h a))
    refused-stays refused = go (refusal_in rules (ended_line h ∷ lines a)) refl
      where
        go : (o : Option End) → refusal_in rules (ended_line h ∷ lines a) ≡ o
            → (ending rules (headed h (a ++ b)) ≡ ending rules (headed h a))
            × (good rules (headed h (a ++ b)) ≡ good rules (headed h a))
        go None is = absurd (refused (ap (ending_of rules) front-lines ∙ ap (λ o. unwrap_or o Complete) is))
        go (Some e) is = part-stays e is

-- ---- what is held at most

greatest-two : (measure : List ℕ → ℕ) (cs ds : List (List ℕ))
    → greatest measure (cs ++ ds) ≡ max (greatest measure cs) (greatest measure ds)
greatest-two measure [] ds = omega arith
greatest-two measure (c ∷ cs) ds = omega (arith, greatest-two measure cs ds)

pub contents-headed : (h s : List ℕ) → NoLf h → contents (headed h s) ≡ h ∷ contents s
contents-headed h s free = ap (map (λ l. l.content)) (lines-headed h s free)

pub contents-parts : (a b : List ℕ) → whole a ≡ a → contents (a ++ b) ≡ contents a ++ contents b
contents-parts a b w = ap (map (λ l. l.content)) (lines-parts a b w) ∙ map-append (λ l. l.content) (lines a) (lines b)

pub first-headed : (h s : List ℕ) → NoLf h → first_content (headed h s) ≡ h
first-headed h s free = rw (closed-ended)

-- of a header, and contents behind it
peaks_behind : LimitPair → List ℕ → List (List ℕ) → Peaks
peaks_behind limits h cs = record {
  bytes = length h + greatest (held_length limits) cs;
  tokens = tree_size limits h + greatest (tree_size limits) cs;
  depth = max (tree_nest limits h) (greatest (tree_nest limits) cs);
}

module _ (limits : LimitPair) (h : List ℕ) where
  exact-headed : (s : List ℕ) → NoLf h → exact_peaks limits (headed h s) ≡ peaks_behind limits h (contents s)
  unfolding peaks_behind
  exact-headed s free = rw (first-headed, contents-headed)

  -- of more contents
  peaks-two : (cs ds : List (List ℕ))
      → peaks_behind limits h (cs ++ ds) ≡ greater_peaks (peaks_behind limits h cs) (peaks_behind limits h ds)
  unfolding peaks_behind
  peaks-two cs ds =
      same-peaks _ _ _ _ _ _
      (omega (arith, greatest-two))
      (omega (arith, greatest-two))
      (omega (arith, greatest-two))

  pub exact-parts : (a b : List ℕ) → IsCut h a
      → exact_peaks limits (headed h (a ++ b)) ≡ greater_peaks (exact_peaks limits (headed h a))
      (exact_peaks limits (headed h b))
  exact-parts a b cut =
      grind (
        arith,
        nat_tests,
        exact-headed,
        contents-parts,
        peaks-two,
        exact-headed,
        exact-headed,
      )

-- ---- a stream keeps the same where lines are left out of it that are not kept

map-none : (f : End → End) (o : Option End) → option_map f o ≡ None → o ≡ None
map-none f None h = refl
map-none f (Some x) h = cc

module _ (rules : Rules) (e : Line) where
  -- one line more before some others changes nothing
  none-before : (l : Line) (zs : List Line) → refusal_from rules (e ∷ l ∷ []) zs ≡ None
      → refusal_from rules (e ∷ []) zs ≡ None
  none-before l zs h = map-none _ _ (sym (refusal-moved _ e _ _) ∙ h)

  none-after : (l : Line) (zs : List Line) → refusal_from rules (e ∷ []) zs ≡ None
      → refusal_from rules (e ∷ l ∷ []) zs ≡ None
  none-after l zs h = refusal-moved _ e _ _ ∙ ap (option_map (moved_end 1)) h

  -- no refusal is an end among the lines that stay
  none-staying : (xs : List (Line × Bool)) → refusal_from rules (e ∷ []) (all_lines xs) ≡ None
      → refusal_from rules (e ∷ []) (staying xs) ≡ None
  none-staying [] h = refl
  none-staying (x ∷ xs) h =
      grind (arith, none-staying xs, none-before x.0 (all_lines xs), none-after x.0 (staying xs))

  -- the same is kept of them
  kept-staying : (xs : List (Line × Bool)) → LeavesKept rules e xs
      → kept_from rules (e ∷ []) (staying xs) ≡ kept_from rules (e ∷ []) (all_lines xs)
  kept-staying [] h = refl
  kept-staying (x ∷ xs) h =
      grind (
        arith,
        h 0 x (omega arith),
        kept-moved,
        kept-moved rules e (x.0 ∷ []) (staying xs),
        kept-staying xs (λ k d small. h (suc k) d (omega (arith, small))),
      )

module _ (rules : Rules) (h a b : List ℕ) (xs : List (Line × Bool)) (free : NoLf h) (all : lines a ≡ all_lines xs)
    (some : lines b ≡ staying xs)
    (left : LeavesKept rules (ended_line h) xs) (done : ending rules (headed h a) ≡ Complete) where
  lines_headed : lines (headed h a) ≡ ended_line h ∷ all_lines xs
  lines_headed = lines-headed h a free ∙ ap (λ z. ended_line h ∷ z) all

  part : lines (headed h b) ≡ ended_line h ∷ staying xs
  part = lines-headed h b free ∙ ap (λ z. ended_line h ∷ z) some

  none-whole : refusal_in rules (ended_line h ∷ all_lines xs) ≡ None
  none-whole = let k = complete-none _ _ done in rw lines_headed at k

  none-part : refusal_in rules (ended_line h ∷ staying xs) ≡ None
  none-part =
      let both = refusal-step (refusal_of rules 1 (verdict rules [] h))
      _ none-whole in
      let later = none-staying rules (ended_line h) xs both.1 in
      rw (both.0, later) refl

  pub ending-selection : ending rules (headed h b) ≡ Complete
  ending-selection = rw part (ap (λ o. unwrap_or o Complete) none-part)

  pub kept-selection : kept rules (headed h b) ≡ kept rules (headed h a)
  kept-selection =
      rw (
        part,
        lines_headed,
        good-all rules [] (ended_line h ∷ staying xs) none-part,
        good-all rules [] (ended_line h ∷ all_lines xs) none-whole,
      )
      (ap (λ z. cond (is_kept (verdict rules [] h)) (item_after rules [] (ended_line h) ∷ z) z)
      (kept-staying rules (ended_line h) xs left))

  pub output-selection : output rules (headed h b) ≡ output rules (headed h a)
  output-selection = ap (flat_map raw_item) kept-selection
