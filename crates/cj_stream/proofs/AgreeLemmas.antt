-- What the list of judged lines says: the lines, and what was held at most.
use Rattle.cj_stream.proofs.Common.{Bool, Complete, Invalid, IsVerdict, Item, Json, Judgement, Kept, Line, List, None, Option, Report, Rules, Ruling, Some, Tree, Verdict, [], ap, arith, broken, cond, cons_option, ending, ending_of, false, first_end, flat_map, good, good_from, is_kept, is_some, item_after, item_by, item_of, judged_at, judged_later, judged_lines, judged_list, judged_tree, kept, kept_in, kept_of, length, length-append, lines, lines_before, map, nat_tests, nest, not, option_map, output, raw, raw_item, refl, refusal_from, refusal_of, reported, reported_of, reports_of, ruling_after, rulings, spelled, subst, sunk, sym, tree_of, true, unwrap_or, verdict, verdict_at, ℕ, ◌&&◌, ◌++◌, ◌+◌, ◌<◌, ◌∙◌, ◌∷◌, ◌≡◌, ◌≤◌, HasPeaks, IsExact, Peaks, Reason, Refused, drop, exact_peaks, first_content, greatest, held_length, is_blank, is_blank_byte, is_readable, judged_nest, judged_size, later_of, list_all, max, read_tree, spelled_tree, tree_nest, tree_size}
use Rattle.std.proofs.Common.{eqb, ◌||◌, filter_map, option_and_then, find}
use Rattle.std.proofs.lemmas.List.Sums.{take_while-cons}
use Rattle.cj_spans.proofs.Judgements.{judgement, say_same}
use Rattle.cj_stream.specs.Meaning.Judged.{JudgedLine, ends, handled, is_invalid, report_by, report_of, output_in, reported_in, end_of_report, ending_in, written_by}
use Rattle.cj_stream.proofs.JudgedLemmas.{first-is, kept-tree, later-fits, behind-some, verdict-is}
use Rattle.cj_stream.proofs.VerdictLemmas.{valid-first, verdict-first, blank-tree}
use Rattle.cj_stream.specs.Bound.{are_legible}
use Rattle.cj_stream.specs.Meaning.Bound.{is_legible, nest_if, peaks_in, size_if}
use Rattle.cj_stream.proofs.LineLemmas.{lines-cut}

-- ---- the list of judged lines says what the lines one after another say

item-none : (line : Line) (header tree : Option Tree) (v : Verdict) → is_kept v ≡ false
    → item_by line header tree v ≡ None
item-none line header None v h = refl
item-none line header (Some t) v h = grind arith

-- the handled ones of some rulings
abbrev handled_of : List Ruling → List Ruling
handled_of [] = []
handled_of (r ∷ rs) = cond (is_some r.end) [] (r ∷ handled_of rs)

module _ (rules : Rules) where
  good-handled : (before ls : List Line)
      → rulings rules before (good_from rules before ls) ≡ handled_of (rulings rules before ls)
  good-handled before [] = refl
  good-handled before (l ∷ ls) = grind (arith, good-handled (before ++ l ∷ []) ls)

  -- a ruling and a judged line say the same
  record IsSame (r : Ruling) (j : JudgedLine) : Type 0 where
    line : j.line ≡ r.item.line
    item : item_of j ≡ cond r.kept (Some r.item) None
    written : written_by j.line j.verdict ≡ cond r.kept (raw_item r.item) []
    reports : r.reports ≡ cons_option (report_of j) []
    end : r.end ≡ cond (ends rules j) (Some (end_of_report (report_of j))) None

  -- so do some rulings and a list of judged lines, up to the first end
  record Agrees (rs : List Ruling) (js : List JudgedLine) : Type 0 where
    good : lines_before rs ≡ map (λ j. j.line) (handled rules js)
    kept : kept_of (handled_of rs) ≡ kept_in rules js
    written : flat_map raw_item (kept_of (handled_of rs)) ≡ output_in rules js
    reported : reported_of (handled_of rs) ≡ reported_in rules js
    refusal : first_end rs ≡ option_map (λ (j : JudgedLine). end_of_report (report_of j)) (find (ends rules) js)

  step : (r : Ruling) (rs : List Ruling) (j : JudgedLine) (js : List JudgedLine) → IsSame r j
      → (ends rules j ≡ false → Agrees rs js) → Agrees (r ∷ rs) (j ∷ js)
  step r rs j js is later = go (ends rules j) refl
    where
      next : handled rules (j ∷ js) ≡ cond (not (ends rules j)) (j ∷ handled rules js) []
      next = take_while-cons (λ q. not (ends rules q)) j js

      kept-cons : (is : List Item) → cond r.kept (r.item ∷ is) is ≡ cons_option (item_of j) is
      kept-cons others = grind (arith, is.item)

      written-cons : (others : List Item) → flat_map raw_item (cond r.kept (r.item ∷ others) others)
          ≡ written_by j.line j.verdict ++ flat_map raw_item others
      written-cons others = grind (arith, is.written)

      reported-cons : (others : List Report) → r.reports ++ others ≡ cons_option (report_of j) others
      reported-cons others = grind (arith, is.reports)

      go : (b : Bool) → ends rules j ≡ b → Agrees (r ∷ rs) (j ∷ js)
      go true e =
          let none : handled rules (j ∷ js) ≡ [] = next ∙ rw e refl in
          let stop : r.end ≡ Some (end_of_report (report_of j)) = is.end ∙ rw e refl in
          record {
            good = rw stop (sym (ap (map (λ (q : JudgedLine). q.line)) none));
            kept = rw stop (sym (ap (filter_map item_of) none));
            written = rw stop (sym (ap (flat_map (λ (q : JudgedLine). written_by q.line q.verdict)) none));
            reported = rw stop (sym (ap (filter_map report_of) none));
            refusal = rw (stop, e) refl;
          }
      go false e =
          let a = later e in
          let more : handled rules (j ∷ js) ≡ j ∷ handled rules js = next ∙ rw e refl in
          let on : r.end ≡ None = is.end ∙ rw e refl in
          record {
            good = rw (on, a.good, ← is.line) (sym (ap (map (λ (q : JudgedLine). q.line)) more));
            kept = rw on (kept-cons (kept_of (handled_of rs)) ∙ (ap (cons_option (item_of j)) a.kept
                ∙ sym (ap (filter_map item_of) more)));
            written = rw on (written-cons (kept_of (handled_of rs))
                ∙ (ap (λ z. written_by j.line j.verdict ++ z) a.written
                ∙ sym (ap (flat_map (λ (q : JudgedLine). written_by q.line q.verdict)) more)));
            reported = rw on (reported-cons (reported_of (handled_of rs)) ∙ (ap (cons_option (report_of j)) a.reported
                ∙ sym (ap (filter_map report_of) more)));
            refusal = rw (on, e) a.refusal;
          }

  -- the end that a line is, by both
  same-end : (n : ℕ) (v : Verdict) → 0 < n
      → refusal_of rules n v
      ≡ cond (is_invalid v && (eqb n 1 || not rules.options.keep_going)) (Some (end_of_report (report_by n v))) None
  same-end n (Invalid place reason) some = grind (arith, nat_tests)
  same-end n other some = refl

  same-reports : (n : ℕ) (v : Verdict) → reports_of n v ≡ cons_option (report_by n v) []
  same-reports n v = grind arith

  same-written : (l : Line) (v : Verdict) → written_by l v ≡ cond (is_kept v) (raw l) []
  same-written l v = grind arith

  -- the tree that a content spells, by both
  same-tree : (c : List ℕ) (u : Tree) → Json c u → nest u ≤ rules.limits.depth → u ≡ tree_of rules.limits.depth c
  same-tree c u json shallow = go (judgement c rules.limits.depth)
    where
      go : (j : Judgement c rules.limits.depth) → u ≡ judged_tree j
      go (spelled t k m) = say_same (spelled u json shallow) (spelled t k m)
      go (broken i s m) = absurd (say_same (spelled u json shallow) (broken i s m))
      go (sunk i s) = absurd (say_same (spelled u json shallow) (sunk i s))

  -- the item of a kept line with this header
  same-item : (header : Option Tree) (l : Line) (t : Option Tree) (v : Verdict)
      → IsVerdict rules header l.content t v → v ≡ Kept
      → item_by l header t v
      ≡ Some (record { line = l; tree = tree_of rules.limits.depth l.content; header = header })
  same-item header l t v is e =
      let k = kept-tree _ _ _ t v is e in
      rw (e, k.1) (ap (λ z. Some (record { line = l; tree = z; header = header })) (same-tree l.content k.0 k.2.json
      k.2.shallow))

  -- the ruling on a line, and the line with the verdict that it has there
  same : (before : List Line) (l : Line) (j : JudgedLine) → j.line ≡ l → j.number ≡ length before + 1
      → j.verdict ≡ verdict rules before l.content
      → (j.verdict ≡ Kept → item_of j ≡ Some (item_after rules before l)) → IsSame (ruling_after rules before l) j
  same before l j line number said item = record {
    line = line;
    item = go j.verdict refl;
    written = rw (line, said) (same-written l (verdict rules before l.content));
    reports = rw (number, said) (same-reports (length before + 1) (verdict rules before l.content));
    end = rw (number, said) (same-end (length before + 1) (verdict rules before l.content) (omega arith));
  }
    where
      go : (v : Verdict) → j.verdict ≡ v
          → item_of j ≡ cond (is_kept (verdict rules before l.content)) (Some (item_after rules before l)) None
      go Kept e = item e ∙ rw (← said, e) refl
      go other e = rw (← said, e) (item-none j.line j.header j.tree other refl)

  -- behind a header
  later-agrees : (first : Line) (xs : List Line) (n : ℕ) → n ≡ length (first ∷ xs) + 1 → (ls : List Line)
      → Agrees (rulings rules (first ∷ xs) ls) (judged_later rules (tree_of rules.limits.depth first.content) n ls)
  later-agrees first xs n e [] = record { good = refl; kept = refl; written = refl; reported = refl; refusal = refl }
  later-agrees first xs n e (l ∷ ls) =
      let h = tree_of rules.limits.depth first.content in
      let is = verdict-is _ n h _ (later-fits _ n h (omega (arith, e))) _ in
      step _ _
      _ _
      (same (first ∷ xs) l (judged_at rules n (Some h) l) refl e (ap (λ m. verdict_at rules m h l.content) e)
      (λ k. rw (other-number (length (first ∷ xs)) (omega arith)) (same-item (Some h) l _ _ is k)))
      (λ on. later-agrees first (xs ++ l ∷ []) (n + 1) (omega (arith, e, length-append xs (l ∷ []))) ls)
    where
      other-number : (k : ℕ) → 0 < k → eqb (k + 1) 1 ≡ false
      other-number k h = grind (arith, nat_tests)

  -- of all lines
  list-agrees : (ls : List Line) → Agrees (rulings rules [] ls) (judged_list rules ls)
  list-agrees [] = record { good = refl; kept = refl; written = refl; reported = refl; refusal = refl }
  list-agrees (l ∷ ls) =
      let j = judged_at rules 1 None l in
      let first = verdict-first _ _ (tree_of rules.limits.depth []) _ in
      let is = same [] l j refl refl first
      (same-item None l j.tree j.verdict (first-is rules l).verdict) in
      step _ _ j _ is
      (λ on.
      let kept = first ∙ valid-first _ _ _ (is.end ∙ rw on) in
      let k = kept-tree _ _ _ _ _ (first-is _ l).verdict kept in
      let behind = behind-some _ _ _ _ _ kept k.1
      ∙ ap (λ h. judged_later rules h 2 ls) (same-tree _ _ k.2.json k.2.shallow) in
      subst (λ js. Agrees (rulings rules (l ∷ []) ls) js) (sym behind) (later-agrees l _ 2 refl _))

  -- ---- of a stream

  module _ (s : List ℕ) where
    pub good-in : good rules s ≡ map (λ j. j.line) (handled rules (judged_lines rules s))
    good-in = (list-agrees _).good

    pub kept-in : kept rules s ≡ kept_in rules (judged_lines rules s)
    kept-in = ap kept_of (good-handled _ _) ∙ (list-agrees _).kept

    pub output-in : output rules s ≡ output_in rules (judged_lines rules s)
    output-in = ap (λ rs. flat_map raw_item (kept_of rs)) (good-handled _ _) ∙ (list-agrees _).written

    pub reported-in : reported rules s ≡ reported_in rules (judged_lines rules s)
    reported-in = ap reported_of (good-handled _ _) ∙ (list-agrees _).reported

    pub ending-in : ending rules s ≡ ending_in rules (judged_lines rules s)
    ending-in = go (lines s) (list-agrees _).refusal
      where
        go : (ls : List Line)
            → refusal_from rules [] ls
            ≡ option_map (λ (j : JudgedLine). end_of_report (report_of j)) (find (ends rules) (judged_list rules ls))
            → ending_of rules ls ≡ ending_in rules (judged_list rules ls)
        go [] e = refl
        go (l ∷ ls) e = ap (λ o. unwrap_or o Complete) e ∙ by (find (ends rules) (judged_list rules (l ∷ ls)))
          where
            by : (o : Option JudgedLine)
                → unwrap_or (option_map (λ j. end_of_report (report_of j)) o) Complete
                ≡ end_of_report (option_and_then report_of o)
            by o = grind arith

-- ---- what was held at most of a complete stream is what its judged lines say

-- the first line begins a stream
first-line : (s : List ℕ) (l : Line) (ls : List Line) → lines s ≡ l ∷ ls → first_content s ≡ l.content
first-line s l ls e =
    grind (arith, nat_tests, lines-cut)

-- ---- one line

sized-by : {c : List ℕ} {d : ℕ} (text blanks : Bool) (j : Judgement c d)
    → (blanks ≡ true → cond text (judged_size j) 0 ≡ 0)
    → cond text (judged_size j) 0 ≡ size_if (cond (text && not blanks) (spelled_tree j) None)
sized-by false blanks j h = refl
sized-by true true j h = h refl
sized-by true false (spelled t k n) h = refl
sized-by true false (broken i s n) h = refl
sized-by true false (sunk i s) h = refl

nested-by : {c : List ℕ} {d : ℕ} (text blanks : Bool) (j : Judgement c d)
    → (blanks ≡ true → cond text (judged_nest j) 0 ≡ 0)
    → cond text (judged_nest j) 0 ≡ nest_if (cond (text && not blanks) (spelled_tree j) None)
nested-by false blanks j h = refl
nested-by true true j h = h refl
nested-by true false (spelled t k n) h = refl
nested-by true false (broken i s n) h = refl
nested-by true false (sunk i s) h = refl

all-blank : (header : Option Tree) (c : List ℕ) → is_blank header c ≡ true → list_all is_blank_byte c ≡ true
all-blank None c h = cc
all-blank (Some t) c h = h

module _ (rules : Rules) where
  sized : (header : Option Tree) (c : List ℕ) → tree_size rules.limits c ≡ size_if (read_tree rules header c)
  sized header c =
      sized-by _ _ _
      (λ b. (blank-tree _ c (all-blank _ c b)).0)

  nested : (header : Option Tree) (c : List ℕ) → tree_nest rules.limits c ≡ nest_if (read_tree rules header c)
  nested header c =
      nested-by _ _ _
      (λ b. (blank-tree _ c (all-blank _ c b)).1)

  legible : (n : ℕ) (h : Tree) (l : Line) → 1 < n
      → is_readable rules.limits l.content ≡ is_legible (judged_at rules n (Some h) l)
  unfolding verdict_at
  legible n h l later =
      grind (arith, nat_tests)

  -- ---- the later lines

  later-greatest : (h : Tree) (f : List ℕ → ℕ) (g : JudgedLine → ℕ)
      → ((n : ℕ) (l : Line) → f l.content ≡ g (judged_at rules n (Some h) l)) → (n : ℕ) (ls : List Line)
      → greatest f (map (λ l. l.content) ls) ≡ greatest g (judged_later rules h n ls)
  later-greatest h f g same n [] = refl
  later-greatest h f g same n (l ∷ ls) =
      ap (λ m. max m (greatest f (map (λ x. x.content) ls))) (same n l)
      ∙ ap (max (g (judged_at rules n (Some h) l))) (later-greatest h f g same (n + 1) ls)

  later-legible : (h : Tree) (n : ℕ) → 1 < n → (ls : List Line)
      → list_all (is_readable rules.limits) (map (λ l. l.content) ls)
      ≡ list_all is_legible (judged_later rules h n ls)
  later-legible h n later [] = refl
  later-legible h n later (l ∷ ls) =
      ap (λ b. b && list_all (is_readable rules.limits) (map (λ l. l.content) ls)) (legible n h l later)
      ∙ ap (λ b. is_legible (judged_at rules n (Some h) l) && b) (later-legible h (n + 1) (omega arith) ls)

  -- ---- a complete stream

  refused-first : (l : Line) (ls : List Line) (place : ℕ) (reason : Reason)
      → (judged_at rules 1 None l).verdict ≡ Invalid place reason
      → ending_in rules (judged_list rules (l ∷ ls)) ≡ Refused 1 place reason
  refused-first l ls place reason e =
      grind (arith, nat_tests)

  pub kept-first : (l : Line) (ls : List Line) → ending_in rules (judged_list rules (l ∷ ls)) ≡ Complete
      → (judged_at rules 1 None l).verdict ≡ Kept
  kept-first l ls h = valid-first _ _ _ (go (judged_at rules 1 None l).verdict refl)
    where
      go : (v : Verdict) → (judged_at rules 1 None l).verdict ≡ v
          → refusal_of rules 1 (judged_at rules 1 None l).verdict ≡ None
      go (Invalid place reason) e = cc (refused-first l ls place reason e, h)
      go other e = rw e

  record SamePeaks (s : List ℕ) (js : List JudgedLine) : Type 0 where
    peaks : exact_peaks rules.limits s ≡ peaks_in rules.limits js
    readable : are_legible rules.limits s ≡ list_all is_legible (drop 1 js)

  headed-peaks : (s : List ℕ) (h : Tree) (l : Line) (ls : List Line) → lines s ≡ l ∷ ls
      → SamePeaks s (judged_at rules 1 None l ∷ judged_later rules h 2 ls)
  headed-peaks s h l ls e =
      let bytes = ap length (first-line s l _ e) in
      let held = ap (λ z. greatest (held_length rules.limits) (later_of (map (λ l. l.content) z))) e
      ∙ later-greatest h _ _ (λ n l. refl) 2 _ in
      record {
        peaks = λ i. record {
          bytes = bytes i + held i;
          tokens = (ap (λ z. first_size (map (λ (l : Line). l.content) z)) e ∙ sized None l.content) i +
              (ap (λ z. greatest (tree_size rules.limits) (later_of (map (λ (l : Line). l.content) z))) e
              ∙ later-greatest h (tree_size rules.limits) (λ j. size_if j.tree) (λ n l. sized (Some h) l.content) 2 ls)
              i;
          depth = (ap (λ z. greatest (tree_nest rules.limits) (map (λ (l : Line). l.content) z)) e
              ∙ ap (λ m. max m (greatest (tree_nest rules.limits) (map (λ (l : Line). l.content) ls)))
              (nested None l.content)
              ∙ ap (λ m. max (nest_if (read_tree rules None l.content)) m)
              (later-greatest h (tree_nest rules.limits) (λ j. nest_if j.tree) (λ n l. nested (Some h) l.content) 2
              ls)) i;
        };
        readable = ap (λ z. list_all (is_readable rules.limits) (later_of (map (λ l. l.content) z))) e
            ∙ later-legible h 2 (omega arith) _;
      }
    where
      first_size : List (List ℕ) → ℕ
      first_size [] = 0
      first_size (c ∷ cs) = tree_size rules.limits c

  same-peaks : (s : List ℕ) → ending rules s ≡ Complete → SamePeaks s (judged_lines rules s)
  same-peaks s h = go (lines s) refl (sym (ending-in _ s) ∙ h)
    where
      go : (ls : List Line) → lines s ≡ ls → ending_in rules (judged_list rules ls) ≡ Complete
          → SamePeaks s (judged_list rules ls)
      go [] e h = cc
      go (l ∷ ls) e h =
          let k = kept-first l _ h in
          let u = kept-tree _ _ _ _ _ (first-is _ l).verdict k in
          let behind = behind-some _ _ _ _ _ k u.1 in
          subst (λ js. SamePeaks s (judged_at rules 1 None l ∷ js)) (sym behind) (headed-peaks s _ l _ e)

  pub HasPeaks-exact : (s : List ℕ) (peaks : Peaks) → ending rules s ≡ Complete → IsExact rules.limits s peaks
      → HasPeaks rules.limits (judged_lines rules s) peaks
  HasPeaks-exact s peaks h e =
      let same = same-peaks s h in
      record {
        bytes = e.bytes ∙ ap (λ p. p.bytes) same.peaks;
        tokens = omega (arith, ap (λ p. p.tokens) same.peaks);
        depth = omega (arith, ap (λ p. p.depth) same.peaks);
        legible = λ k. e.legible (same.readable ∙ k) ∙ same.peaks;
      }

  pub IsExact-peaks : (s : List ℕ) (peaks : Peaks) → ending rules s ≡ Complete
      → HasPeaks rules.limits (judged_lines rules s) peaks → IsExact rules.limits s peaks
  IsExact-peaks s peaks h e =
      let same = same-peaks s h in
      record {
        bytes = e.bytes ∙ sym (ap (λ p. p.bytes) same.peaks);
        least = record {
          bytes = omega (arith, ap (λ p. p.bytes) same.peaks);
          tokens = omega (arith, ap (λ p. p.tokens) same.peaks);
          depth = omega (arith, ap (λ p. p.depth) same.peaks);
        };
        legible = λ k. e.legible (sym same.readable ∙ k) ∙ sym same.peaks;
      }
