-- A stream in many parts: how its runs went, what they counted and judged.
use Rattle.cj_stream.proofs.Common.{AreComplete, Complete, IsCut, Item, List, Rules, [], ap, append_assoc, arith, drop, ended_line, ending, flat_map, flat_map-append, headed, item_after, joined, kept, kept_from, later_of, length, lines, moved_end, nat_tests, output, raw_item, refl, suc, sym, whole, ℕ, ◌++◌, ◌+◌, ◌∙◌, ◌∷◌, ◌≡◌, Account, Blank, Bool, Counts, End, Ends, Invalid, Kept, LeftOut, Line, Outcome, Peaks, Refused, Verdict, both_outcomes, capped_end, capped_outcome, filter, length-append, length-take, reported_from, reports_of, subst, take, verdict, ◌-◌, ◌<◌, ◌^◌, ◌≤◌, IsRange, IsTallyOf, JoinsTallies, None, Number, Option, Some, Tally, Tree, append-nil, beside, capped, chars, codes, filter-append, get_or, good, how_often, is_header, last_or, last_shown, map, numbers_on, option_map, over_features, transform_values, wider, ℤ, judged_at, judged_later, judged_lines, judged_list, moved_line}
use Rattle.cj_stream.proofs.AccountLemmas.{closed-parts, run_over, Account-joined}
use Rattle.cj_stream.proofs.PartsLemmas.{header-valid, front-good, back-kept, kept-first, kept-parts, ending-parts, back-good, features-counted, all-lines, back-lines, front-lines}
use Rattle.cj_stream.proofs.ReadingLemmas.{map_lines-append}
use Rattle.cj_stream.proofs.GoodLemmas.{good-refused}
use Rattle.cj_stream.proofs.Ranges.{IsRange-two}
use Rattle.cj_stream.proofs.TallySinkLemmas.{how_often-append}
use Rattle.cj_stream.proofs.JudgedLemmas.{behind-some, first-is, kept-tree, later-fits, only-verdict, verdict-is}
use Rattle.cj_stream.proofs.VerdictLemmas.{verdict-first}

-- ---- a stream in any number of parts

-- whole lines, and more of them
whole-parts : (a b : List ℕ) → whole a ≡ a → whole b ≡ b → whole (a ++ b) ≡ a ++ b
whole-parts a b u v =
    grind (
      arith,
      nat_tests,
      closed-parts,
      map_lines-append,
      flat_map-append,
    )

module _ (rules : Rules) (h : List ℕ) (alone : IsCut h []) (done : ending rules (headed h []) ≡ Complete) where
  pub complete-parts : (parts : List (List ℕ)) → AreComplete rules h parts → IsCut h (joined parts)
      × (ending rules (headed h (joined parts)) ≡ Complete)
  complete-parts [] all = (alone, done)
  complete-parts (a ∷ parts) all =
      let later = complete-parts parts all.2 in (
        record { header = alone.header; lines = whole-parts a _ all.0.lines later.0.lines },
        ending-parts _ h a all.0 all.1 _ ∙ ap (moved_end (length (lines a))) later.1,
      )

  -- the header alone
  header-item : Item
  header-item = item_after rules [] (ended_line h)

  header-kept : kept rules (headed h []) ≡ header-item ∷ []
  unfolding header-item
  header-kept = ap (kept_from rules []) (front-good _ h _ alone done)
      ∙ kept-first _ _ (header-valid rules h [] alone done) []

  part-kept : (a : List ℕ) → kept rules (headed h a) ≡ header-item ∷ later_of (kept rules (headed h a))
  unfolding header-item
  part-kept a = back-kept _ h [] alone done a

  all-kept : (parts : List (List ℕ)) → AreComplete rules h parts
      → kept rules (headed h (joined parts)) ≡ header-item ∷ flat_map (λ a. later_of (kept rules (headed h a))) parts
  all-kept [] all = header-kept
  all-kept (a ∷ parts) all =
      grind (arith, nat_tests, kept-parts rules h a all.0 all.1 (joined parts), all-kept parts all.2, part-kept a)

  pub kept-all_parts : (parts : List (List ℕ)) → AreComplete rules h parts
      → kept rules (headed h (joined parts)) ≡ kept rules (headed h [])
      ++ flat_map (λ a. later_of (kept rules (headed h a))) parts
  kept-all_parts parts all = all-kept _ all
      ∙ ap (λ z. z ++ flat_map (λ a. later_of (kept rules (headed h a))) parts) (sym header-kept)

  -- the bytes of a header and of items behind it
  header-raw : (is : List Item) → flat_map raw_item (header-item ∷ is) ≡ headed h (flat_map raw_item is)
  unfolding header-item
  header-raw is = append_assoc h (10 ∷ []) (flat_map raw_item is)

  part-written : (a : List ℕ) → flat_map raw_item (later_of (kept rules (headed h a)))
      ≡ drop (length h + 1) (output rules (headed h a))
  part-written a =
      let rest = flat_map raw_item (later_of (kept rules (headed h a))) in
      sym (ap (drop (length h + 1)) (ap (flat_map raw_item) (part-kept a)
      ∙ header-raw (later_of (kept rules (headed h a)))) ∙ dropped h rest)
    where
      dropped : (h rest : List ℕ) → drop (length h + 1) (h ++ 10 ∷ rest) ≡ rest
      dropped [] rest = refl
      dropped (b ∷ h) rest = let next : length (b ∷ h) + 1 ≡ suc (length h + 1) = omega arith in
          rw next (dropped h rest)

  parts-written : (parts : List (List ℕ))
      → flat_map raw_item (flat_map (λ a. later_of (kept rules (headed h a))) parts)
      ≡ flat_map (λ a. drop (length h + 1) (output rules (headed h a))) parts
  parts-written [] = refl
  parts-written (a ∷ parts) =
      let rest = flat_map (λ a. later_of (kept rules (headed h a))) parts in
      flat_map-append raw_item (later_of (kept rules (headed h a))) rest
      ∙ ap (λ z. z ++ flat_map raw_item rest) (part-written a)
      ∙ ap (λ z. drop (length h + 1) (output rules (headed h a)) ++ z) (parts-written parts)

  pub output-all_parts : (parts : List (List ℕ)) → AreComplete rules h parts
      → output rules (headed h (joined parts))
      ≡ headed h (flat_map (λ a. drop (length h + 1) (output rules (headed h a))) parts)
  output-all_parts parts all =
      ap (flat_map raw_item) (all-kept _ all)
      ∙ header-raw (flat_map (λ a. later_of (kept rules (headed h a))) parts)
      ∙ ap (headed h) (parts-written _)

-- ---- how runs over two parts went, as one: with counts that stop at the greatest u64

-- ---- counts that fit

filter-short : {X : Type 0} (p : X → Bool) (xs : List X) → length (filter p xs) ≤ length xs
filter-short p [] = omega arith
filter-short p (x ∷ xs) = grind (arith, filter-short p xs)

kept-short : (rules : Rules) (before ls : List Line) → length (kept_from rules before ls) ≤ length ls
kept-short rules before [] = omega arith
kept-short rules before (l ∷ ls) = grind (arith, kept-short rules (before ++ l ∷ []) ls)

reported-short : (rules : Rules) (before ls : List Line) → length (reported_from rules before ls) ≤ length ls
reported-short rules before [] = omega arith
reported-short rules before (l ∷ ls) =
    let now = reports_of (length before + 1) (verdict rules before l.content) in
    omega (
      arith,
      one (length before + 1) (verdict rules before l.content),
      reported-short rules (before ++ l ∷ []) ls,
      length-append now (reported_from rules (before ++ l ∷ []) ls),
    )
  where
    one : (n : ℕ) (v : Verdict) → length (reports_of n v) ≤ 1
    one n (Invalid place reason) = omega arith
    one n Blank = omega arith
    one n LeftOut = omega arith
    one n Kept = omega arith

-- no more features are kept, and no more lines refused, than were handled
few-counted : (rules : Rules) (r : List ℕ) (n f k : ℕ) → Counts rules r n f k → (f ≤ n) × (k ≤ n)
few-counted rules r n f k x =
    let ls = take n (lines r) in (
      omega (
        arith,
        filter-short,
        kept-short,
        length-take n (lines r),
      ),
      omega (arith, x.counted.refused, reported-short rules [] ls, length-take n (lines r)),
    )

-- the number of a refused line is that after the lines that were handled
capped-end : (rules : Rules) (r : List ℕ) (n m : ℕ) (at_end : Type 0) (e : End) → Ends rules r m at_end e → 1 ≤ n
    → n + m < 2 ^ 64 → capped_end (moved_end (n - 1) e) ≡ moved_end (n - 1) e
capped-end rules r n m at_end (Refused number place reason) said some few =
    let place_of = good-refused _ r _ _ _ said.0 in
    ap (λ k. Refused k place reason) (omega (arith, place_of, said.1, some, few))
capped-end rules r n m at_end other said some few = refl

same-outcome : (l k r x y z : ℕ) (peaks : Peaks) (e f : End) → l ≡ x → k ≡ y → r ≡ z → e ≡ f
    → ◌≡◌ {A = Outcome} (record { lines = l; kept = k; refused = r; peaks = peaks; ended = e })
    (record { lines = x; kept = y; refused = z; peaks = peaks; ended = f })
same-outcome l k r x y z peaks e f p q s t = rw (p, q, s, t)

-- a run over both parts, with counts that stop at the greatest u64
module _ (rules : Rules) (h a b : List ℕ) (cut : IsCut h a) (first second result : Outcome) (at_end at_last : Type 0)
  where
    pub Account-then : first.ended ≡ Complete → result ≡ capped_outcome (both_outcomes first second)
        → first.lines + second.lines < 2 ^ 64
        → Account (run_over rules (headed h a) first) at_end → Account (run_over rules (headed h b) second) at_last
        → Account (run_over rules (headed h (a ++ b)) result) at_last
    Account-then is said few x y =
        let ends : Ends rules (headed h a) first.lines at_end Complete =
        subst (λ (e : End). Ends rules (headed h a) first.lines at_end e) is x.ends in
        let some : 1 ≤ first.lines = omega (arith, ends.1, ap length (front-good rules h a cut ends.0)) in
        let of_first = few-counted _ _ _ _ _ x.counts in
        let of_second = few-counted _ (headed h b) second.lines second.kept second.refused y.counts in
        let same : capped_outcome (both_outcomes first second) ≡ both_outcomes first second =
        same-outcome _ _ _ _ _ _ _ _ _
        (omega (arith, few))
        (omega (arith, few, of_first.0, of_second.0))
        (omega (arith, few, of_first.1, of_second.1))
        (capped-end rules (headed h b) first.lines second.lines at_last second.ended y.ends some few) in
        subst (λ (o : Outcome). Account (run_over rules (headed h (a ++ b)) o) at_last) (sym (said ∙ same))
        (Account-joined rules h a b cut first second at_end at_last is x y)

-- ---- the tally of a stream, from those of its parts

-- behind a header there is none
no-header : (rules : Rules) (l : Line) (xs zs : List Line) → filter is_header (kept_from rules (l ∷ xs) zs) ≡ []
no-header rules l xs [] = refl
no-header rules l xs (z ∷ zs) =
    grind (arith, nat_tests, no-header rules l (xs ++ z ∷ []) zs)

module _ (rules : Rules) (h a b : List ℕ) (cut : IsCut h a) (done : ending rules (headed h a) ≡ Complete) where
  -- what stands behind the header of the second part
  later-kept : later_of (kept rules (headed h b)) ≡ kept_from rules (ended_line h ∷ [])
      (later_of (good rules (headed h b)))
  later-kept =
      ap (λ z. later_of (kept_from rules [] z)) (back-good _ h a cut done b)
      ∙ ap later_of (kept-first _ _ (header-valid rules h a cut done)
      _)

  -- what features of both parts have
  over-parts : {X : Type 0} (part : Tree → Tree → List X)
      → over_features part (kept rules (headed h (a ++ b))) ≡ over_features part (kept rules (headed h a))
      ++ over_features part (kept rules (headed h b))
  over-parts part =
      let first = kept rules (headed h a) in
      ap (over_features part) (kept-parts _ h a cut done b)
      ∙ flat_map-append (λ i. beside part i.header i.tree) first (later_of (kept rules (headed h b)))
      ∙ ap (λ z. over_features part first ++ z) (sym (ap (over_features part) (back-kept _ h a cut done b)))

  often-parts : (part : Tree → Tree → List ℕ) (n x y z : ℕ)
      → x ≡ capped (how_often n (over_features part (kept rules (headed h a))))
      → y ≡ capped (how_often n (over_features part (kept rules (headed h b)))) → z ≡ capped (x + y)
      → z ≡ capped (how_often n (over_features part (kept rules (headed h (a ++ b)))))
  often-parts part n x y z p q r =
      let xs = over_features part (kept rules (headed h a)) in
      let ys = over_features part (kept rules (headed h b)) in
      three x y z (how_often n xs) (how_often n ys) (how_often n (over_features part (kept rules (headed h (a ++ b)))))
      p q r (ap (how_often n) (over-parts part) ∙ how_often-append n xs ys)
    where
      three : (x y z i j k : ℕ) → x ≡ capped i → y ≡ capped j → z ≡ capped (x + y) → k ≡ i + j → z ≡ capped k
      three x y z i j k p q r sum = omega arith

  headers-parts : filter is_header (kept rules (headed h (a ++ b))) ≡ filter is_header (kept rules (headed h a))
  headers-parts =
      let first = kept rules (headed h a) in
      let others = later_of (kept rules (headed h b)) in
      ap (filter is_header) (kept-parts _ h a cut done b)
      ∙ filter-append is_header first others
      ∙ ap (λ z. filter is_header first ++ z) (ap (filter is_header) later-kept
      ∙ no-header rules (ended_line h) [] (later_of (good rules (headed h b)))) ∙ append-nil (filter is_header first)

  shown-parts : (name : List ℕ) (first both : Option (List Number))
      → option_map (map Some) first ≡ last_shown name (kept rules (headed h a)) → both ≡ first
      → option_map (map Some) both ≡ last_shown name (kept rules (headed h (a ++ b)))
  shown-parts name first both shown same =
      ap (option_map (map Some)) same
      ∙ shown ∙ sym (ap (λ z. last_or None (map (λ i. transform_values (chars name) i.tree) z)) headers-parts)

  pub tally-parts : (first second both : Tally) → IsTallyOf (kept rules (headed h a)) first
      → IsTallyOf (kept rules (headed h b)) second → JoinsTallies first second both
      → IsTallyOf (kept rules (headed h (a ++ b))) both
  tally-parts first second both x y joins = record {
    features = omega (arith, x.features, y.features, joins.features, features-counted rules h a cut done b);
    types = λ n inside. often-parts _ n _ _ _ (x.types n inside) (y.types n inside)
        (joins.types n inside);
    lods = λ class inside. often-parts _ _ _ _ _ (x.lods class inside) (y.lods class inside)
        (joins.lods class inside);
    ranges = λ axis inside.
        let xs = over_features (λ header. numbers_on axis) (kept rules (headed h a)) in
        let ys = over_features (λ header. numbers_on axis) (kept rules (headed h b)) in
        subst (λ (r : Option (ℤ × ℤ)).
        IsRange (over_features (λ header. numbers_on axis) (kept rules (headed h (a ++ b)))) r)
        (sym (joins.ranges axis inside))
        (subst (λ (ns : List ℤ). IsRange ns (wider (get_or first.ranges axis None) (get_or second.ranges axis None)))
        (sym (over-parts (λ header. numbers_on axis)))
        (IsRange-two xs ys _ _ (x.ranges axis inside) (y.ranges axis inside)));
    scale = shown-parts (codes "scale") first.scale both.scale x.scale joins.scale;
    translate = shown-parts (codes "translate") first.translate both.translate x.translate joins.translate;
  }

-- ---- the list of judged lines of a stream that is read in two parts

module _ (rules : Rules) (h : Tree) where
  -- more lines after some
  later-append : (n : ℕ) (xs ys : List Line)
      → judged_later rules h n (xs ++ ys) ≡ judged_later rules h n xs ++ judged_later rules h (n + length xs) ys
  later-append n [] ys = let none : n + 0 ≡ n = omega arith in rw none refl
  later-append n (x ∷ xs) ys =
      grind (arith, nat_tests, later-append (n + 1) xs ys)

  -- the same lines by other numbers
  line-moved : (n k : ℕ) → 1 < n → (l : Line)
      → judged_at rules (n + k) (Some h) l ≡ moved_line k (judged_at rules n (Some h) l)
  line-moved n k later l =
      let is = verdict-is _ _ h (Some h) (later-fits rules (n + k) h (omega (arith, later))) _ in
      let same = (only-verdict _ n h _ (later-fits rules n h later) _ _ _ is).verdict in
      ap (λ v. record {
        number = n + k;
        line = l;
        header = Some h;
        tree = (judged_at rules n (Some h) l).tree;
        verdict = v;
      }) same

  later-moved : (n k : ℕ) → 1 < n → (ls : List Line)
      → judged_later rules h (n + k) ls ≡ map (moved_line k) (judged_later rules h n ls)
  later-moved n k later [] = refl
  later-moved n k later (l ∷ ls) =
      grind (arith, nat_tests, line-moved, later-moved (n + 1) k (omega (arith, later)) ls)

module _ (rules : Rules) (l : Line) (valid : verdict rules [] l.content ≡ Kept) where
  first-kept : (judged_at rules 1 None l).verdict ≡ Kept
  first-kept = verdict-first _ _ _ _ ∙ valid

  -- a valid header, and the lines after it
  headed-list : (h : Tree) × ((ls : List Line)
      → judged_list rules (l ∷ ls) ≡ judged_at rules 1 None l ∷ judged_later rules h 2 ls)
  headed-list =
      let first = judged_at rules 1 None l in
      let k = kept-tree _ _ _ _ _ (first-is _ l).verdict first-kept in (
        k.0,
        λ ls. ap (λ js. judged_at rules 1 None l ∷ js)
            (behind-some _ _ _ _ _ first-kept k.1),
      )

  list-joined : (xs ys : List Line) → judged_list rules (l ∷ xs ++ ys) ≡ judged_list rules (l ∷ xs)
      ++ map (moved_line (length xs)) (later_of (judged_list rules (l ∷ ys)))
  list-joined xs ys =
      let k = headed-list in
      let first = judged_at rules 1 None l in
      k.1 (xs ++ ys)
      ∙ ap (λ js. first ∷ js) (later-append _ _ 2 _ _)
      ∙ ap (λ js. first ∷ judged_later rules k.0 2 xs ++ js) (later-moved rules k.0 2 (length xs) (omega arith) ys
      ∙ sym (ap (λ js. map (moved_line (length xs)) (later_of js)) (k.1 ys)))
      ∙ ap (λ js. js ++ map (moved_line (length xs)) (later_of (judged_list rules (l ∷ ys)))) (sym (k.1 xs))

-- the list of both parts is that of the first, and then that of the second without its header, moved
pub judged-parts : (rules : Rules) (h a b : List ℕ) → IsCut h a → ending rules (headed h a) ≡ Complete
    → judged_lines rules (headed h (a ++ b)) ≡ judged_lines rules (headed h a)
    ++ map (moved_line (length (lines a))) (later_of (judged_lines rules (headed h b)))
judged-parts rules h a b cut done =
    grind (
      arith,
      nat_tests,
      all-lines rules h a cut b,
      list-joined rules (ended_line h) (header-valid rules h a cut done) (lines a) (lines b),
      front-lines rules h a cut,
      back-lines rules h a cut b,
    )
