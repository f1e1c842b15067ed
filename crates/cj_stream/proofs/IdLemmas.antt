-- The ids of a query: one is found in runs that are in order.
use Rattle.cj_stream.proofs.Common.{All, All-append, All-cons, All-nil, AreIndexed, AreRuns, Ascend, Bool, Entry, Equal, Err, Greater, IsPermutation, IsUtf8, Key, Less, List, None, Ok, Option, Ordering, Result, Some, Tree, [], ap, append-nil, are_same_texts, arith, cases_lt, chars, compare, compare_keys, compare_texts, drop, false, get_or, inl, inr, is_eq, is_lt, is_one_of, key_at, key_of, keys_at, keys_of, length, length-append, length-drop, length-map, length-take, list_any, map, map-append, nat_cmp, nat_tests, piece, pieces, refl, subst, suc, sym, take, take-append-drop, take-append-le, take-map, take_all, text_of, true, zero, ℕ, ◌++◌, ◌+◌, ◌-◌, ◌<◌, ◌∙◌, ◌∷◌, ◌≡◌, ◌≤◌}
use Rattle.std.proofs.Common.{sum, is_ok, slice_range, IsSortedBy, IsCharBoundary, get_or-take, get_or-drop, length-take-le, take-take, drop_at, ◌||◌}
use Rattle.std.specs.Cmp.{IsTotalOrder, tied_itself}
use Rattle.std.specs.Cmp.Lexicographic.{bytes_decides, nat_list_cmp_total, options_total, texts_ties}
use Rattle.std.specs.List.Sorted.{IsNonDecreasingBy, IsSearchInRange, IsBinarySearchResult}
use Rattle.std.specs.Ordering.{ordering_then, ordering_reverse}
use Rattle.std.proofs.lemmas.Cmp.{nat_cmp_total, on_total, then_total}
use Rattle.std.proofs.lemmas.List.{get_or_default, get_or-map, get_or_append_left, drop_all, drop-append-le, drop-take}
use borrow.Rule.Slice.PartMut.{put_mid}
use Rattle.std.proofs.lemmas.Str.{IsCharBoundary-at_seam, IsCharBoundary-end}
use Rattle.std.proofs.lemmas.List.Folds.{list_any_at, list_any_none, list_any-append}
use Rattle.std.proofs.lemmas.List.Sorted.{IsPermutation-append, IsPermutation-map, IsPermutation-refl, IsPermutation-trans, All-permutation, length_permutation, searchable_from_sorted, IsNonDecreasingBy-from_all_adjacent}
use Rattle.std.proofs.lemmas.List.Sums.{sum_by-cons, sum_by-append, sum_by-take-le}
use Rattle.cj_spans.specs.Tail.{tail_of}
use Rattle.cj_stream.specs.Ids.{may_cut, IsSlice, HasAllOf}

-- keys have one order
pub keys_total : IsTotalOrder compare_keys
keys_total =
    then_total (on_total (λ k. k.number) nat_cmp_total)
    (on_total (λ k. k.text) (options_total nat_list_cmp_total))

-- ---- what is the same key

-- what comes after a number tells whether both are equal, where numbers are equal as soon as it is
then_equal : (n o : Ordering) → (o ≡ Equal → n ≡ Equal) → is_eq (ordering_then n o) ≡ is_eq o
then_equal Equal o h = refl
then_equal Less Less h = refl
then_equal Less Equal h = ap is_eq (h refl)
then_equal Less Greater h = refl
then_equal Greater Less h = refl
then_equal Greater Equal h = ap is_eq (h refl)
then_equal Greater Greater h = refl

reversed : (o : Ordering) → is_eq (ordering_reverse o) ≡ is_eq o
reversed Less = refl
reversed Equal = refl
reversed Greater = refl

-- texts that are equal in the order are the same
same_texts : (s t : List ℕ) → compare s t ≡ Equal → s ≡ t
same_texts s t h = (bytes_decides s t).0 (texts_ties s t ∙ ap is_eq h)

pub same_key : (s : List ℕ) (o : Option (List ℕ)) → is_eq (compare_keys (key_of (Some s)) (key_of o))
    ≡ are_same_texts o (Some s)
same_key s None = then_equal (nat_cmp (tail_of (Some s)) (tail_of None)) _ (λ h. cc)
same_key s (Some t) =
    then_equal (nat_cmp (tail_of (Some s)) (tail_of (Some t))) (compare s t)
    (λ h. subst (λ u. nat_cmp (tail_of (Some s)) (tail_of (Some u)) ≡ Equal) (same_texts s t h)
    (tied_itself nat_cmp_total (tail_of (Some s))))
    ∙ sym (reversed (compare s t))
    ∙ ap is_eq (sym (nat_list_cmp_total.antisymm t s))
    ∙ sym (texts_ties t s)

-- the key of a tree's text is among those of the ids where the tree is one of them
pub has_key : (ids : List (List ℕ)) (t : Tree)
    → list_any (λ key. is_eq (compare_keys key (key_of (text_of t)))) (keys_of ids) ≡ is_one_of ids t
has_key [] t = refl
has_key (id ∷ ids) t = ap (λ b. b || list_any (λ key. is_eq (compare_keys key (key_of (text_of t)))) (keys_of ids))
    (same_key (chars id) (text_of t))
    ∙ ap (λ b. are_same_texts (text_of t) (Some (chars id)) || b) (has_key ids t)

-- where the numbers are equal, a key is the same where the text is
pub same_beside : (n : ℕ) (s : List ℕ) (o : Option (List ℕ))
    → are_same_texts o (Some s)
    ≡ is_eq (compare_keys (record { number = n; text = Some s }) (record { number = n; text = o }))
same_beside n s None = ap (λ r. is_eq (ordering_then r Greater)) (sym (tied_itself nat_cmp_total n))
same_beside n s (Some t) =
    texts_ties t s
    ∙ ap is_eq (nat_list_cmp_total.antisymm t s)
    ∙ reversed _
    ∙ ap (λ r. is_eq (ordering_then r (compare s t))) (sym (tied_itself nat_cmp_total n))

-- a text beside a key is compared by the turned answer, where the numbers are equal
pub compare_turned : (n m : ℕ) (s : List ℕ) (o : Option (List ℕ)) → nat_cmp n m ≡ Equal
    → ordering_reverse (compare_texts o (Some s)) ≡ compare_keys (record { number = n; text = Some s })
    (record { number = m; text = o })
compare_turned n m s o e =
    sym (ap (λ r. ordering_then r (compare_texts (Some s) o)) e ∙ (options_total nat_list_cmp_total).antisymm (Some s)
    o)

-- ---- what is in order

module _ {X : Type 0} (f : X → Key) where
  -- the keys of what is in order by its keys are in order
  pub keys_ascend : (xs : List X) → IsSortedBy (λ a b. is_lt (compare_keys (f a) (f b))) xs → Ascend (map f xs)
  keys_ascend [] up k e low h = absurd (omega arith)
  keys_ascend (x ∷ xs) up k e low h =
      let near : suc k < length (x ∷ xs) = omega (arith, h, length-map (x ∷ xs) f) in
      let here : k < length (x ∷ xs) = omega arith in
      let next : k + 1 < length (x ∷ xs) = omega arith in
      rw (get_or-map f (x ∷ xs) (k + 1) x e next, get_or-map f (x ∷ xs) k x e here) (up k x low next)

  -- and the other way round
  pub ascend_by_keys : (xs : List X) → Ascend (map f xs) → IsSortedBy (λ a b. is_lt (compare_keys (f a) (f b))) xs
  ascend_by_keys xs up k d low h =
      let whole : k + 1 < length (map f xs) = omega (arith, h, length-map xs f) in
      rw (get_or-map f xs (k + 1) d (f d) h, get_or-map f xs k d (f d) (omega arith)) at (up k (f d) low whole)

  list_any_map : (p : Key → Bool) (xs : List X) → list_any p (map f xs) ≡ list_any (λ x. p (f x)) xs
  list_any_map p [] = refl
  list_any_map p (x ∷ xs) = ap (λ b. p (f x) || b) (list_any_map p xs)

  -- a binary search in what is in order finds a key where there is one
  pub found : (q : Key) (xs : List X) (r : Result ℕ ℕ) → Ascend (map f xs) → IsSearchInRange r (length xs)
      → IsBinarySearchResult (λ x. compare_keys (f x) q) xs r
      → is_ok r ≡ list_any (λ key. is_eq (compare_keys key q)) (map f xs)
  found q [] (Ok i) up within is = absurd (omega arith)
  found q (x ∷ xs) (Ok i) up within is =
      sym (list_any_map (λ key. is_eq (compare_keys key q)) (x ∷ xs)
      ∙ list_any_at (λ y. is_eq (compare_keys (f y) q)) (x ∷ xs) i x within (ap is_eq (is x)))
  found q xs (Err i) up within is =
      let parts = is (searchable_from_sorted keys_total f xs q (ascend_by_keys _ up)) in
      sym (list_any_map (λ key. is_eq (compare_keys key q)) xs
      ∙ list_any_none (λ y. is_eq (compare_keys (f y) q)) _ (λ k d h. elim (cases_lt k i) [
        | inl below ↦ ap is_eq (parts.0 k d (omega arith) below)
        | inr above ↦
            ap is_eq (parts.1 k d above h)
      ]))

-- ---- runs

-- runs hold all keys
runs_sum : (keys : List Key) (ns : List ℕ) → AreRuns keys ns → sum ns ≡ length keys
runs_sum keys [] runs = ap length (sym runs)
runs_sum keys (n ∷ ns) runs =
    sum_by-cons _ n ns ∙ omega (arith, runs_sum (drop n keys) ns runs.2, runs.0, length-drop n keys)

-- the first runs
runs_front : (keys : List Key) (ns : List ℕ) (j : ℕ) → AreRuns keys ns
    → AreRuns (take (sum (take j ns)) keys) (take j ns)
runs_front keys ns zero runs = refl
runs_front keys [] (suc j) runs = refl
runs_front keys (n ∷ ns) (suc j) runs =
    let s = sum (take j ns) in
    let more : sum (n ∷ take j ns) ≡ n + s = sum_by-cons (λ x. x) n (take j ns) in
    rw more (
      omega (arith, runs.0, length-take (n + s) keys),
      subst Ascend (sym (take-take n (n + s) keys (omega arith))) runs.1,
      subst (λ ks. AreRuns ks (take j ns)) (sym (drop-take n s keys)) (runs_front (drop n keys) ns j runs.2),
    )

-- one run more
runs_back : (keys more : List Key) (ns : List ℕ) → AreRuns keys ns → Ascend more
    → AreRuns (keys ++ more) (ns ++ length more ∷ [])
runs_back keys more [] runs up =
    subst (λ ks. AreRuns (ks ++ more) (length more ∷ [])) (sym runs) (
      omega arith,
      subst Ascend (sym (take_all (length more) more (omega arith))) up,
      drop_all (length more) more (omega arith),
    )
runs_back keys more (n ∷ ns) runs up = (
  omega (arith, runs.0, length-append keys more),
  subst Ascend (sym (take-append-le n keys more runs.0)) runs.1,
  subst (λ ks. AreRuns ks (ns ++ length more ∷ [])) (sym (drop-append-le n keys more runs.0))
      (runs_back (drop n keys) more ns runs.2 up),
)

-- ---- one id more

-- where a text may be cut, it may be where another follows it
seam_kept : (xs ys : List ℕ) (i : ℕ) → IsUtf8 ys → IsCharBoundary xs i → IsCharBoundary (xs ++ ys) i
seam_kept xs ys i utf8 seam = elim (cases_lt i (length xs)) [
  | inl below ↦ (
    omega (arith, below, length-append xs ys),
    λ l a. let same = get_or_append_left xs ys 0 i below in
        omega (arith, seam.1 below (omega arith), same),
  )
  | inr above ↦ subst (IsCharBoundary (xs ++ ys)) (omega (arith, above, seam.0))
      (IsCharBoundary-at_seam (xs ++ ys) xs ys refl utf8)
]

cuts : (bytes : List ℕ) (i : ℕ) → IsCharBoundary bytes i → may_cut bytes i ≡ true
cuts bytes i seam = grind (arith, nat_tests)

piece_is : (bytes : List ℕ) (start end : ℕ) → start ≤ end → IsCharBoundary bytes start → IsCharBoundary bytes end
    → piece bytes start end ≡ slice_range bytes start end
piece_is bytes start end up first last = grind (arith, nat_tests, cuts, cuts)

-- the ids and one more
pub pieces_more : (bytes id : List ℕ) (ns : List ℕ) → sum ns ≡ length bytes
    → pieces (bytes ++ id) (ns ++ length id ∷ []) ≡ pieces bytes ns ++ id ∷ []
pieces_more [] id [] h = ap (λ t. t ∷ []) (take_all (length id) id (omega arith))
pieces_more (b ∷ bytes) id [] h = absurd (omega (arith, h))
pieces_more bytes id (n ∷ ns) h =
    let more : sum (n ∷ ns) ≡ n + sum ns = sum_by-cons (λ x. x) n ns in
    let low : n ≤ length bytes = omega (arith, h, more) in
    let rest : sum ns ≡ length (drop n bytes) = omega (arith, h, more, length-drop n bytes) in
    ap (λ t. t ∷ pieces (drop n (bytes ++ id)) (ns ++ length id ∷ [])) (take-append-le n bytes id low)
    ∙ ap (λ r. take n bytes ∷ pieces r (ns ++ length id ∷ [])) (drop-append-le n bytes id low)
    ∙ ap (λ ps. take n bytes ∷ ps) (pieces_more (drop n bytes) id ns rest)

module _ (bytes id : List ℕ) (utf8 : IsUtf8 id) where
  -- entries of the ids before tell the same ids
  same_keys : (entries : List Entry) → All (IsSlice bytes) entries
      → keys_at (bytes ++ id) entries ≡ keys_at bytes entries
  same_keys [] within = refl
  same_keys (e ∷ entries) within =
      let here = within 0 e (omega arith) in
      ap (λ k. k ∷ keys_at (bytes ++ id) entries) (ap (λ s. record { number = e.number; text = Some (chars s) })
      (kept e here)) ∙ ap (λ ks. key_at bytes e ∷ ks) (same_keys entries (λ k d h. within (suc k) d (omega arith)))
    where
      kept : (e : Entry) → IsSlice bytes e → piece (bytes ++ id) e.start e.end ≡ piece bytes e.start e.end
      kept e cut =
          piece_is _ _ _ cut.0 (seam_kept _ _ _ utf8 cut.1)
          (seam_kept _ _ _ utf8 cut.2)
          ∙ ap (take (e.end - e.start)) (drop-append-le _ _ _ cut.1.0)
          ∙ take-append-le _ _ _ (omega (arith, cut.2.0, length-drop e.start bytes))
          ∙ sym (piece_is _ _ _ cut.0 cut.1 cut.2)

  -- the new id's entry is cut out of it
  new_cut : (e : Entry) → e.start ≡ length bytes → e.end ≡ length (bytes ++ id) → IsSlice (bytes ++ id) e
  new_cut e start end = (
    omega (arith, start, end, length-append bytes id),
    subst (IsCharBoundary (bytes ++ id)) (sym start) (IsCharBoundary-at_seam (bytes ++ id) bytes id refl utf8),
    subst (IsCharBoundary (bytes ++ id)) (sym end) (IsCharBoundary-end (bytes ++ id)),
  )

  -- and has its key
  new_key : (e : Entry) → e.number ≡ tail_of (Some (chars id)) → e.start ≡ length bytes → e.end ≡ length (bytes ++ id)
      → key_at (bytes ++ id) e ≡ key_of (Some (chars id))
  new_key e n start end =
      let cut = new_cut e start end in
      ap (λ m. record { number = m; text = Some (chars (piece (bytes ++ id) e.start e.end)) }) n
      ∙ ap (λ s. record { number = tail_of (Some (chars id)); text = Some (chars s) })
      (piece_is (bytes ++ id) e.start e.end cut.0 cut.1 cut.2
      ∙ ap (take (e.end - e.start)) (drop_at bytes id e.start (sym start))
      ∙ take_all (e.end - e.start) id (omega (arith, start, end, length-append bytes id)))

  -- the entries of one id more, sorted from a place on that joins the runs that were taken off
  pub indexed_more : (lengths : List ℕ) (entries sorted : List Entry) (runs left : List ℕ) (e : Entry) (count start : ℕ)
      → AreIndexed bytes lengths entries runs
      → e.number ≡ tail_of (Some (chars id)) → e.start ≡ length bytes → e.end ≡ length (bytes ++ id)
      → left ≡ take (length left) runs → sum left + count ≡ sum runs + 1 → start + count ≡ length entries + 1
      → take start sorted ≡ take start (entries ++ e ∷ []) → IsPermutation (entries ++ e ∷ []) sorted
      → Ascend (keys_at (bytes ++ id) (drop start sorted))
      → AreIndexed (bytes ++ id) (lengths ++ length id ∷ []) sorted (left ++ count ∷ [])
  indexed_more lengths entries sorted runs left e count start old number begins ends front counts starts kept moved up =
      let more : List ℕ = bytes ++ id in
      let keys : List Key = keys_at bytes entries in
      let key : Key = key_of (Some (chars id)) in
      let ids : List (List ℕ) = pieces bytes lengths in
      let held : sum runs ≡ length keys = runs_sum keys runs old.ordered in
      let few : sum left ≤ sum runs =
      subst (λ ns. sum ns ≤ sum runs) (sym front) (sum_by-take-le (λ x. x) runs (length left)) in
      let first : sum left ≡ start = omega (arith, counts, starts, held, length-map entries (key_at bytes)) in
      let low : start ≤ length entries = omega (arith, first, few, held, length-map entries (key_at bytes)) in
      let front_runs : AreRuns (take (sum left) keys) left =
      subst (λ ns. AreRuns (take (sum ns) keys) ns) (sym front) (runs_front keys runs (length left) old.ordered) in
      let same : keys_at more (take start sorted) ≡ take start keys =
      ap (keys_at more) (kept ∙ take-append-le start entries (e ∷ []) low) ∙ sym (take-map (key_at more) start entries)
      ∙ ap (take start) (same_keys entries old.within) in
      let fronts : AreRuns (keys_at more (take start sorted)) left =
      subst (λ ks. AreRuns ks left) (sym same) (subst (λ m. AreRuns (take m keys) left) first front_runs) in
      let back : length (keys_at more (drop start sorted)) ≡ count =
      omega (
        arith,
        length-map (drop start sorted) (key_at more),
        length-drop start sorted,
        length_permutation (entries ++ e ∷ []) sorted moved,
        length-append entries (e ∷ []),
        starts,
        low,
      ) in
      let whole : keys_at more (take start sorted) ++ keys_at more (drop start sorted) ≡ keys_at more sorted =
      sym (map-append (key_at more) (take start sorted) (drop start sorted))
      ∙ ap (keys_at more) (take-append-drop start sorted) in
      let ended : keys_at more (entries ++ e ∷ []) ≡ keys ++ key ∷ [] =
      map-append (key_at more) entries (e ∷ []) ∙ ap (λ ks. ks ++ key_at more e ∷ []) (same_keys entries old.within)
      ∙ ap (λ k. keys ++ k ∷ []) (new_key e number begins ends) in
      let added : keys_of (pieces more (lengths ++ length id ∷ [])) ≡ keys_of ids ++ key ∷ [] =
      ap keys_of (pieces_more bytes id lengths old.held) ∙ map-append (λ i. key_of (Some (chars i))) ids (id ∷ []) in
      let each : IsPermutation (keys_of (pieces more (lengths ++ length id ∷ []))) (keys ++ key ∷ []) =
      subst (λ ks. IsPermutation ks (keys ++ key ∷ [])) (sym added)
      (IsPermutation-append (keys_of ids) keys (key ∷ []) (key ∷ []) old.each (IsPermutation-refl (key ∷ []))) in
      record {
        held = sum_by-append (λ x. x) lengths (length id ∷ []) ∙ omega (arith, old.held, length-append bytes id);
        within = All-permutation (IsSlice more) (entries ++ e ∷ []) sorted moved
            (All-append (IsSlice more) entries (e ∷ []) (λ k d h. let cut = old.within k d h in (
              cut.0,
              seam_kept bytes id (get_or entries k d).start utf8 cut.1,
              seam_kept bytes id (get_or entries k d).end utf8 cut.2,
            ))
            (All-cons (IsSlice more) e [] (new_cut e begins ends) (All-nil (IsSlice more))));
        each = IsPermutation-trans (keys_of (pieces more (lengths ++ length id ∷ [])))
            (keys_at more (entries ++ e ∷ [])) (keys_at more sorted)
            (subst (IsPermutation (keys_of (pieces more (lengths ++ length id ∷ [])))) (sym ended) each)
            (IsPermutation-map (key_at more) (entries ++ e ∷ []) sorted moved);
        ordered = subst (λ ks. AreRuns ks (left ++ count ∷ [])) whole
            (subst (λ n. AreRuns (keys_at more (take start sorted) ++ keys_at more (drop start sorted))
            (left ++ n ∷ [])) back
            (runs_back (keys_at more (take start sorted)) (keys_at more (drop start sorted)) left fronts up));
      }

-- all entries in one run
pub indexed_whole : (bytes lengths : List ℕ) (entries sorted : List Entry) (runs : List ℕ) (count : ℕ)
    → AreIndexed bytes lengths entries runs → IsPermutation entries sorted → Ascend (keys_at bytes sorted)
    → count ≡ length sorted
    → AreIndexed bytes lengths sorted (count ∷ [])
indexed_whole bytes lengths entries sorted runs count old moved up all =
    let keys = keys_at bytes sorted in
    let long : length keys ≡ length sorted = length-map sorted (key_at bytes) in
    record {
      held = old.held;
      within = All-permutation (IsSlice bytes) entries sorted moved old.within;
      each = IsPermutation-trans (keys_of (pieces bytes lengths)) (keys_at bytes entries) keys old.each
          (IsPermutation-map (key_at bytes) entries sorted moved);
      ordered = (
        omega arith,
        subst Ascend (sym (take_all count keys (omega arith))) up,
        drop_all count keys (omega arith),
      );
    }

-- the first run of some is in order
pub first_run : (keys : List Key) (runs left : List ℕ) (n : ℕ) → runs ≡ n ∷ left → AreRuns keys runs
    → Ascend (take n keys)
first_run keys runs left n e ordered = (rw e at ordered).1

-- there are as many keys in runs as ids
pub runs_held : (bytes lengths : List ℕ) (entries : List Entry) (runs : List ℕ) → AreIndexed bytes lengths entries runs
    → sum runs ≡ length entries
runs_held bytes lengths entries runs old = runs_sum _ _ old.ordered
    ∙ length-map _ _

-- what stands behind a place once it was written anew
pub drop_put : {X : Type 0} (start : ℕ) (xs ys : List X) → start ≤ length xs
    → drop start (put_mid start (length xs - start) xs ys) ≡ ys
drop_put start xs ys h =
    let rest = drop (length xs - start) (drop start xs) in
    drop_at (take start xs) (ys ++ rest) start (length-take-le start xs h)
    ∙ ap (λ zs. ys ++ zs) (drop_all _ (drop start xs) (omega (arith, length-drop start xs)))
    ∙ append-nil ys

-- ---- a part of what is in order

-- a key that is not less has no lesser number
not_less : (a b : Key) → is_lt (compare_keys a b) ≡ false → b.number ≤ a.number
not_less a b h = grind (arith, nat_tests)

-- the numbers of what is in order do not fall
pub numbers_rise : {X : Type 0} (f : X → Key) (xs : List X) → Ascend (map f xs)
    → IsNonDecreasingBy (λ x. (f x).number) xs
numbers_rise f xs up = IsNonDecreasingBy-from_all_adjacent (λ x. (f x).number) _
    (λ k d h. not_less (f (get_or xs (k + 1) d)) (f (get_or xs k d)) (ascend_by_keys f _ up k d (omega arith) h))

-- equal keys have one number
same_number : (a b : Key) → is_eq (compare_keys a b) ≡ true → a.number ≡ b.number
same_number a b h = grind (arith, nat_tests)

-- where a test fails at all elements of other numbers, and there are no others
none_there : (test : Entry → Bool) (xs : List Entry) (number : ℕ) → ((e : Entry) → test e ≡ true → e.number ≡ number)
    → ((k : ℕ) (d : Entry) → k < length xs → (get_or xs k d).number ≡ number → ⊥) → list_any test xs ≡ false
none_there test xs number only other = list_any_none _ _ (λ k d h. failed (get_or xs k d) (other k d h))
  where
    failed : (e : Entry) → (e.number ≡ number → ⊥) → test e ≡ false
    failed e not = grind (arith, only e)

no_more : (b : Bool) → (b || false) ≡ b
no_more false = refl
no_more true = refl

-- entries between one of a lesser number and one of a greater number are all of this number
pub part_has : (number : ℕ) (x : Entry) (xs : List Entry) (start stop : ℕ)
    → IsNonDecreasingBy (λ (e : Entry). e.number) xs → start < stop → stop ≤ length xs
    → (0 < start → (get_or xs start x).number < number) → (stop < length xs → number < (get_or xs (stop - 1) x).number)
    → HasAllOf number (take (stop - start) (drop start xs)) xs
part_has number x xs start stop up ordered within before after test only =
    let rest = drop start xs in
    let part = take (stop - start) rest in
    let past = drop (stop - start) rest in
    sym ((ap (list_any test) (sym (take-append-drop start xs)) ∙ list_any-append test (take start xs) rest)
    ∙ ap (λ b. b || list_any test rest) (none_there test (take start xs) number only
    (λ k d h e.
    let low : k < start = omega (arith, h, length-take-le start xs (omega arith)) in
    let same = get_or-take start xs k d low ∙ get_or_default xs k d x (omega arith) in
    let rise = up k start x (omega arith) (omega arith) in
    absurd (omega (arith, before (omega arith), rise, e, ap (λ (y : Entry). y.number) same))))
    ∙ (ap (list_any test) (sym (take-append-drop (stop - start) rest)) ∙ list_any-append test part past)
    ∙ ap (λ b. list_any test part || b) (none_there test past number only
    (λ k d h e.
    let long : length past ≡ length xs - stop = omega (arith, length-drop (stop - start) rest, length-drop start xs) in
    let same = get_or-drop (stop - start) rest k d ∙ get_or-drop start xs ((stop - start) + k) d
    ∙ get_or_default xs (start + ((stop - start) + k)) d x (omega (arith, h, long)) in
    let rise = up (stop - 1) (start + ((stop - start) + k)) x (omega arith) (omega (arith, h, long)) in
    absurd (omega (arith, after (omega (arith, h, long)), rise, e, ap (λ (y : Entry). y.number) same))))
    ∙ no_more _)

-- a key is among those of a part where it is among all
pub part_keys : (bytes : List ℕ) (q : Key) (part whole : List Entry) → HasAllOf q.number part whole
    → list_any (λ key. is_eq (compare_keys key q)) (keys_at bytes part) ≡ list_any (λ key. is_eq (compare_keys key q))
    (keys_at bytes whole)
part_keys bytes q part whole has =
    let test : Key → Bool = λ key. is_eq (compare_keys key q) in
    list_any_map (key_at bytes) test part ∙ has (λ e. test (key_at bytes e)) (λ e h. same_number (key_at bytes e) q h)
    ∙ sym (list_any_map (key_at bytes) test whole)
