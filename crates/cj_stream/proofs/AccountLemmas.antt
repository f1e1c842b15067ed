-- The account of a run over a stream, from those of runs over its parts.
use Rattle.cj_stream.proofs.Common.{Account, AreCounted, Complete, Counts, End, Ends, IsBounded, IsCut, IsExact, IsUnread, Kept, LimitPair, Line, List, Memory, NoLf, None, Outcome, Peaks, ReadFault, ReadLimit, Refused, Rules, Run, Some, WriteFault, [], ap, append-nil, append_assoc, arith, begun, both_outcomes, bytes_bound, closed, contents, ended_line, ending, ending_of, exact_peaks, filter, filter-append, good, greater_peaks, headed, inl, inr, is_feature, is_readable, judged, kept_from, later_of, length, length-append, length-map, lines, list_all, list_all-append, long_line, map, max, min, moved_end, moved_report, nat_tests, option_map, refl, refusal_in, reported_from, rulings, subst, suc, sym, take, take-append-add, take-append-le, true, verdict, whole, zero, ℕ, ◌++◌, ◌+◌, ◌-◌, ◌/◌, ◌∙◌, ◌∷◌, ◌≡◌, ◌≤◌, ◌⊎◌}
use Rattle.cj_stream.specs.Meaning.Bound.{tokens_bound, of_first as first_measure}
use Rattle.cj_stream.specs.Bound.{are_legible}
use Rattle.cj_stream.proofs.TookLemmas.{first-good}
use Rattle.cj_stream.proofs.GoodLemmas.{some_of}
use Rattle.cj_stream.proofs.LineLemmas.{lines-whole, closed-ended, begun-ended, closed-then, begun-then, first-length, lines-cut}
use Rattle.cj_stream.proofs.PartsLemmas.{none-begun, contents-headed, contents-parts, first-headed, exact-parts, all-lines, front-lines, back-lines, front-none, header-valid, front-good, back-good, lines-counted, ending-parts, kept-joined, reported-joined, refusal-joined, refused-stays}
use Rattle.cj_stream.proofs.ReadingLemmas.{map_lines-append}
use Rattle.cj_stream.proofs.VerdictLemmas.{and-both, refusal-stays}

-- ---- what can be judged, and the whole lines

pub closed-parts : (a b : List ℕ) → whole a ≡ a → closed (a ++ b) ≡ closed a ++ closed b
closed-parts a b w = closed-then a b ∙ ap (λ z. closed a ++ closed (z ++ b)) (none-begun a w)

begun-parts : (a b : List ℕ) → whole a ≡ a → begun (a ++ b) ≡ begun b
begun-parts a b w = begun-then a b ∙ ap (λ z. begun (z ++ b)) (none-begun a w)

lines-ended : (a : List ℕ) → whole a ≡ a → lines a ≡ map ended_line (closed a)
lines-ended a w = lines-cut a ∙ rw (none-begun a w, append-nil (map ended_line (closed a)))

judged-headed : (limits : LimitPair) (h s : List ℕ) → NoLf h
    → judged limits (headed h s) ≡ ended_line h ∷ judged limits s
judged-headed limits h s free = rw (closed-ended, begun-ended)

judged-parts : (limits : LimitPair) (a b : List ℕ) → whole a ≡ a → judged limits (a ++ b) ≡ lines a ++ judged limits b
judged-parts limits a b w =
    rw (closed-parts, begun-parts, lines-ended, map_lines-append)
    (append_assoc (map ended_line (closed a)) (map ended_line (closed b)) (long_line limits (begun b)))

whole-headed : (h s : List ℕ) → NoLf h → lines (whole (headed h s)) ≡ ended_line h ∷ map ended_line (closed s)
whole-headed h s free = lines-whole (headed h s) ∙ ap (map ended_line) (closed-ended h s free)

whole-parts : (h a b : List ℕ) → IsCut h a → lines (whole (headed h (a ++ b))) ≡ ended_line h ∷ lines a
    ++ map ended_line (closed b)
whole-parts h a b cut =
    grind (
      arith,
      nat_tests,
      whole-headed,
      closed-parts,
      map_lines-append,
      lines-ended,
    )

-- ---- counts

-- some lines, of which the first is a valid header
module _ (rules : Rules) (l : Line) (valid : verdict rules [] l.content ≡ Kept) where
  -- the counts of the first m of them, with the header if m is 0
  Counted-header : (ys : List Line) (m f k : ℕ) → AreCounted (rulings rules [] (take m (l ∷ ys))) f k
      → AreCounted (rulings rules [] (l ∷ take (m - 1) ys)) f k
  Counted-header ys zero f k h = rw valid (record { good = refl; kept = h.kept; refused = h.refused })
  Counted-header ys (suc i) f k h = let one : suc i - 1 ≡ i = omega arith in rw one h

  -- the counts of lines behind it, and of more lines behind it, of which none of the former is the end
  Counted-joined : (xs zs : List Line) (f g r s : ℕ) → AreCounted (rulings rules [] (l ∷ xs)) f r
      → AreCounted (rulings rules [] (l ∷ zs)) g s → AreCounted (rulings rules [] (l ∷ xs ++ zs)) (f + g) (r + s)
  Counted-joined xs zs f g r s first second =
      let front = kept_from rules [] (l ∷ xs) in
      let back = later_of (kept_from rules [] (l ∷ zs)) in
      let reports = reported_from rules [] (l ∷ zs) in
      let moved = moved_report (length xs) in
      let of_second : g ≡ length (filter is_feature back) = second.kept ∙ rw valid refl in
      record {
        good = refusal-joined rules l valid xs first.good zs ∙ ap (option_map (moved_end (length xs))) second.good;
        kept =
            omega (
              arith,
              first.kept,
              of_second,
              ap (λ z. length (filter is_feature z)) (kept-joined rules l valid xs zs),
              ap length (filter-append is_feature front back),
              length-append (filter is_feature front) (filter is_feature back),
            );
        refused =
            omega (
              arith,
              first.refused,
              second.refused,
              ap length (reported-joined rules l valid xs zs),
              length-append (reported_from rules [] (l ∷ xs)) (map moved reports),
              length-map reports moved,
            );
      }

module _ (rules : Rules) (h a : List ℕ) (cut : IsCut h a) (done : ending rules (headed h a) ≡ Complete) (b : List ℕ)
    (n m : ℕ) (all : n ≡ length (good rules (headed h a))) where
  count : n ≡ length (ended_line h ∷ lines a)
  count = all ∙ ap length (front-good _ h a cut done)

  before : n - 1 ≡ length (lines a)
  before = omega (arith, count)

  taken : take (n + (m - 1)) (lines (headed h (a ++ b))) ≡ ended_line h ∷ lines a ++ take (m - 1) (lines b)
  taken =
      ap (take (n + (m - 1))) (all-lines rules h a cut b)
      ∙ ap (λ k. take (k + (m - 1)) (ended_line h ∷ lines a ++ lines b)) count
      ∙ take-append-add (ended_line h ∷ lines a) (lines b) (m - 1)

  few-joined : m ≤ length (lines (headed h b)) → n + (m - 1) ≤ length (lines (headed h (a ++ b)))
  few-joined few =
      omega (
        arith,
        count,
        ap length (all-lines rules h a cut b),
        ap length (back-lines rules h a cut b),
        length-append (ended_line h ∷ lines a) (lines b),
      )

  Counts-joined : (f g r s : ℕ) → Counts rules (headed h a) n f r → Counts rules (headed h b) m g s
      → Counts rules (headed h (a ++ b)) (n + (m - 1)) (f + g) (r + s)
  Counts-joined f g r s first second =
      let valid = header-valid rules h a cut done in
      let here = subst (λ rs. AreCounted rs f r) (first-good rules n (headed h a) all
      ∙ ap (rulings rules []) (front-good rules h a cut done)) first.counted in
      let there = Counted-header _ _ valid _ m g s (rw (back-lines rules h a cut b) at second.counted) in
      record {
        few = few-joined second.few;
        counted = rw taken
            (Counted-joined _ _ valid _ _ f g r s here there);
      }

  -- ---- the end

  all-counted : m ≡ length (good rules (headed h b)) → n + (m - 1) ≡ length (good rules (headed h (a ++ b)))
  all-counted e = omega (arith, e, all, lines-counted rules h a cut done b, ap length (back-good rules h a cut done b))

  judged-joined : (e : End) → refusal_in rules (judged rules.limits (headed h b)) ≡ Some e
      → refusal_in rules (judged rules.limits (headed h (a ++ b))) ≡ Some (moved_end (n - 1) e)
  judged-joined e said =
      let later = judged rules.limits b in
      ap (refusal_in rules) (judged-headed rules.limits h (a ++ b) cut.header
      ∙ ap (λ z. ended_line h ∷ z) (judged-parts rules.limits a b cut.lines))
      ∙ refusal-joined _ _ (header-valid rules h a cut done) _ (front-none rules h a cut done)
      _
      ∙ ap (option_map (moved_end (length (lines a))))
      (ap (refusal_in rules) (sym (judged-headed rules.limits h b cut.header)) ∙ said) ∙ ap (λ k. Some (moved_end k e))
      (sym before)

  whole-joined : (refusal_in rules (lines (whole (headed h b))) ≡ None) × (m ≡ length (lines (whole (headed h b))))
      → (refusal_in rules (lines (whole (headed h (a ++ b)))) ≡ None)
      × (n + (m - 1) ≡ length (lines (whole (headed h (a ++ b)))))
  whole-joined said =
      let later = map ended_line (closed b) in
      let stream = whole-parts h a b cut in (
        ap (refusal_in rules) stream
            ∙ refusal-joined _ _ (header-valid rules h a cut done) (lines a)
            (front-none rules h a cut done) later ∙ ap (option_map (moved_end (length (lines a))))
            (ap (refusal_in rules) (sym (whole-headed h b cut.header)) ∙ said.0),
        omega (
          arith,
          said.1,
          count,
          ap length stream,
          ap length (whole-headed h b cut.header),
          length-append (ended_line h ∷ lines a) later,
        ),
      )

  Ends-joined : (at_end : Type 0) (e : End) → Ends rules (headed h b) m at_end e
      → Ends rules (headed h (a ++ b)) (n + (m - 1)) at_end (moved_end (n - 1) e)
  Ends-joined at_end Complete said =
      (ending-parts _ h a cut done b ∙ ap (moved_end (length (lines a))) said.0, all-counted said.1, said.2)
  Ends-joined at_end (Refused number place reason) said = (
    ending-parts _ h a cut done b
        ∙ ap (moved_end (length (lines a))) said.0 ∙ ap (λ k. Refused (number + k) place reason) (sym before),
    all-counted said.1,
    seen said.2,
  )
    where
      seen : at_end ⊎ (refusal_in rules (judged rules.limits (headed h b)) ≡ Some (Refused number place reason))
          → at_end ⊎ (refusal_in rules (judged rules.limits (headed h (a ++ b)))
          ≡ Some (Refused (number + (n - 1)) place reason))
      seen (inl end) = inl end
      seen (inr k) = inr (judged-joined _ k)
  Ends-joined at_end ReadFault said = whole-joined said
  Ends-joined at_end ReadLimit said = whole-joined said
  Ends-joined at_end WriteFault said = tt
  Ends-joined at_end Memory said = tt

-- ---- what is held

module _ (limits : LimitPair) (h a b : List ℕ) (cut : IsCut h a) where
  -- the bound hangs on the header alone
  same-first : (s t : List ℕ) → first_measure (λ (l : Line). length l.content) (lines (headed h s))
      ≡ first_measure (λ (l : Line). length l.content) (lines (headed h t))
  same-first s t =
      first-length (headed h s)
      ∙ ap length (first-headed h s cut.header ∙ sym (first-headed h t cut.header))
      ∙ sym (first-length (headed h t))

  same-bytes : (s t : List ℕ) → bytes_bound limits (headed h s) ≡ bytes_bound limits (headed h t)
  same-bytes s t = ap (λ n. min n limits.line + limits.line) (same-first s t)

  same-tokens : (s t : List ℕ) → tokens_bound limits (headed h s) ≡ tokens_bound limits (headed h t)
  same-tokens s t = ap (λ n. (min n limits.line + limits.line + limits.depth) / 2 + 1) (same-first s t)

  Bounded-stays : (p : Peaks) → IsBounded limits (headed h a) p → IsBounded limits (headed h (a ++ b)) p
  Bounded-stays p first = record {
    bytes = rw (same-bytes a (a ++ b)) at first.bytes;
    tokens = rw (same-tokens a (a ++ b)) at first.tokens;
    depth = first.depth;
  }

  two-below : (x y n : ℕ) → x ≤ n → y ≤ n → max x y ≤ n
  two-below x y n p q = omega arith

  Bounded-joined : (p q : Peaks) → IsBounded limits (headed h a) p → IsBounded limits (headed h b) q
      → IsBounded limits (headed h (a ++ b)) (greater_peaks p q)
  Bounded-joined p q first second =
      let x = Bounded-stays p first in
      record {
        bytes = two-below _ _ _ x.bytes
            (rw (same-bytes b (a ++ b)) at second.bytes);
        tokens = two-below _ _ _ x.tokens
            (rw (same-tokens b (a ++ b)) at second.tokens);
        depth = two-below _ _ _ first.depth second.depth;
      }

  legible-headed : (s : List ℕ) → are_legible limits (headed h s) ≡ list_all (is_readable limits) (contents s)
  legible-headed s = ap (λ z. list_all (is_readable limits) (later_of z)) (contents-headed h s cut.header)

  legible-parts : are_legible limits (headed h (a ++ b)) ≡ true → (are_legible limits (headed h a) ≡ true)
      × (are_legible limits (headed h b) ≡ true)
  legible-parts h_ab =
      let both = and-both _ _
      (sym (legible-headed (a ++ b)
      ∙ ap (list_all (is_readable limits)) (contents-parts a b cut.lines)
      ∙ list_all-append (is_readable limits) (contents a) (contents b)) ∙ h_ab) in
      (legible-headed a ∙ both.0, legible-headed b ∙ both.1)

  Exact-joined : (p q : Peaks) → IsExact limits (headed h a) p → IsExact limits (headed h b) q
      → IsExact limits (headed h (a ++ b)) (greater_peaks p q)
  Exact-joined p q first second =
      let stream = exact-parts _ h a b cut in
      record {
        bytes = omega (arith, ap (λ z. z.bytes) stream);
        least = record {
          bytes = omega (arith, ap (λ z. z.bytes) stream);
          tokens = omega (arith, ap (λ z. z.tokens) stream);
          depth = omega (arith, ap (λ z. z.depth) stream);
        };
        legible = λ all.
            let both = legible-parts all in
            ap (λ z. greater_peaks z q) (first.legible both.0)
            ∙ ap (greater_peaks (exact_peaks limits (headed h a))) (second.legible both.1) ∙ sym stream;
      }

-- ---- the account

-- a run over these bytes
abbrev pub run_over : Rules → List ℕ → Outcome → Run
run_over rules r outcome = record { rules = rules; read = r; outcome = outcome }

module _ (rules : Rules) (h a b : List ℕ) (cut : IsCut h a) (first second : Outcome) (at_end at_last : Type 0) where
  -- where the first run is complete
  pub Account-joined : first.ended ≡ Complete → Account (run_over rules (headed h a) first) at_end
      → Account (run_over rules (headed h b) second) at_last
      → Account (run_over rules (headed h (a ++ b)) (both_outcomes first second)) at_last
  Account-joined is x y =
      let said =
      rw is at x.ends in
      record {
        bounded = Bounded-joined _ h a b cut _ _ x.bounded y.bounded;
        exact = λ done. Exact-joined _ h a b cut _ _ (x.exact is)
            (y.exact (was_complete second.ended done));
        counts = Counts-joined _ h a cut said.0 b _ _ said.1 _ _
            _ _ x.counts y.counts;
        ends = Ends-joined _ h a cut said.0 b _ _ said.1 _ _ y.ends;
      }
    where
      was_complete : (e : End) → moved_end (first.lines - 1) e ≡ Complete → e ≡ Complete
      was_complete Complete k = refl
      was_complete (Refused number place reason) k = cc
      was_complete ReadFault k = cc
      was_complete ReadLimit k = cc
      was_complete WriteFault k = cc
      was_complete Memory k = cc

  -- where it is refused, or failed in writing, or for want of memory
  Ends-stays : (n : ℕ) (e : End) → ¬ (e ≡ Complete) → IsUnread e → Ends rules (headed h a) n at_end e
      → Ends rules (headed h (a ++ b)) n at_last e
  Ends-stays n Complete other unread said = absurd (other refl)
  Ends-stays n (Refused number place reason) other unread said =
      let stays = refused-stays _ h a cut b (λ k. other (sym said.0 ∙ k)) in
      let later = judged rules.limits b in (
        stays.0 ∙ said.0,
        said.1 ∙ sym (ap length stays.1),
        inr (ap (refusal_in rules) (judged-headed rules.limits h (a ++ b) cut.header
            ∙ ap (λ z. ended_line h ∷ z) (judged-parts rules.limits a b cut.lines))
            ∙ refusal-stays rules [] (ended_line h ∷ lines a) later (Refused number place reason)
            (some_of (refusal_in rules (ended_line h ∷ lines a)) number place reason
            (ap (λ z. ending_of rules z) (sym (front-lines rules h a cut)) ∙ said.0))),
      )
  Ends-stays n WriteFault other unread said = tt
  Ends-stays n Memory other unread said = tt
  Ends-stays n e other unread said = absurd unread

  stream-lines : lines (headed h (a ++ b)) ≡ lines (headed h a) ++ lines b
  stream-lines = all-lines rules h a cut b ∙ ap (λ z. z ++ lines b) (sym (front-lines rules h a cut))

  Counts-stays : (n f r : ℕ) → Counts rules (headed h a) n f r → Counts rules (headed h (a ++ b)) n f r
  Counts-stays n f r x =
      record {
        few = omega (arith, x.few, ap length stream-lines, length-append (lines (headed h a)) (lines b));
        counted = rw (ap (λ z. take n z) stream-lines
            ∙ take-append-le n (lines (headed h a)) (lines b) x.few) x.counted;
      }

  pub Account-stays : ¬ (first.ended ≡ Complete) → IsUnread first.ended
      → Account (run_over rules (headed h a) first) at_end → Account (run_over rules (headed h (a ++ b)) first) at_last
  Account-stays other unread x = record {
    bounded = Bounded-stays _ h a b cut _ x.bounded;
    exact = λ done. absurd (other done);
    counts = Counts-stays _ _ _ x.counts;
    ends = Ends-stays _ _ other unread x.ends;
  }
