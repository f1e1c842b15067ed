-- How many tokens a tree has, and where trees that stand side by side start.
use Rattle.cj_spans.proofs.Common.{◌≡◌, ℕ, zero, suc, ◌+◌, ◌<◌, ◌≤◌, List, [], ◌∷◌, length, drop, slice_get, Some, Result, Ok, Err, refl, sym, ap, arith, rules, ◌∙◌, OnOk, length-drop, slice_get_within, BoundedList, Token, LineFault, Atom, Tree, Items, no_items, item, Members, no_members, member, add_item, add_member, size, items_size, members_size, total_size, held, past, forest, Value, atom, empty_array, full_array, empty_object, full_object, Padded, padded, LedItems, no_led, led, LedMembers, no_led_members, led_member, Named, named, Span, spans_of, AreOf, AreFull, AreNested, AreLinked, before, AreSized, IsScanOf, tree_at, ◌-◌, slice_range, All, ⊤, start_of, byte, kind_by, AreNamesInOrder, AreValuesInOrder, AreWithin, shown_between, pairs_of}
use Rattle.cj_spans.proofs.Views.{before_length, before_one, before_zero, link_past, past_here}
use Rattle.cj_spans.proofs.Scanned.{node_small, forest_small, held_sizes, known, length-spans_of}
use Rattle.cj_spans.proofs.Verdicts.{Ran, ran_tree}
use Rattle.std.proofs.lemmas.List.Elements.{All-nil, All-cons, All-head, All-tail, All-take, All-drop}
use Rattle.cj_spans.proofs.Forests.{past_on, start-node}

-- ---- tokens past the tree of a token: as many as the tree has values and names

-- ---- where all spans show something, so do those further on

full_next : (b : List ℕ) (s : Span) (ss : List Span) → total_size (forest b (s ∷ ss)) ≡ length (s ∷ ss)
    → total_size (forest b ss) ≡ length ss
unfolding forest
full_next b s ss h = grind (arith, forest_small, held_sizes, node_small, s.start)

full_from : (b : List ℕ) (ss : List Span) (k : ℕ) → total_size (forest b ss) ≡ length ss
    → total_size (forest b (drop k ss)) ≡ length (drop k ss)
full_from b ss zero h = h
full_from b [] (suc k) h = h
full_from b (s ∷ ss) (suc k) h = full_from b ss k (full_next b s ss h)

-- and the tree of each has as many values and names as it holds, and itself
full_tree : (b : List ℕ) (ts : List Token) (k : ℕ) (t : Token) → slice_get ts k ≡ Some t
    → total_size (forest b (spans_of ts)) ≡ length (spans_of ts)
    → size (tree_at b (spans_of ts) k) ≡ suc (total_size (held t.stop (forest b (drop (suc k) (spans_of ts)))))
unfolding forest tree_at
full_tree b [] k t h e = cc
full_tree b (u ∷ ts) zero t h e = grind (arith, forest_small, held_sizes, node_small, u.start)
full_tree b (u ∷ ts) (suc k) t h e = full_tree b ts k t h (full_next b _ (spans_of ts) e)

length_from : (ts : List Token) (k : ℕ) → length (drop k (spans_of ts)) ≡ length (drop k ts)
length_from ts zero = length-spans_of ts
length_from [] (suc k) = refl
length_from (t ∷ ts) (suc k) = length_from ts k

-- so many tokens start before a token stops: those of its tree
past_full : (b : List ℕ) (ts : List Token) (k : ℕ) (t : Token) → AreNested ts → AreFull b ts → slice_get ts k ≡ Some t
    → k + 1 + before t.stop (drop (k + 1) ts) ≡ k + size (tree_at b (spans_of ts) k)
past_full b ts k t nested whole h =
    let next : suc k ≡ k + 1 = omega arith in let ss = spans_of ts in let r = k + 1 + before t.stop (drop (k + 1) ts)
    in let full : total_size (forest b ss) ≡ length ss = whole ∙ sym (length-spans_of ts) in let after = link_past b
    ts (k + 1) t.stop r (nested k t h) refl in let there = full_from b ss r full in let split : total_size (past
    t.stop (forest b (drop (k + 1) ss))) ≡ length (drop r ss) = cc (after, there) in omega (
      arith,
      rw next at (full_tree b ts k
          t h full),
      held_sizes t.stop (forest b (drop (k + 1) ss)),
      full_from b ss (k + 1) full,
      length_from ts (k + 1),
      length_from ts r,
      length-drop (k + 1) ts,
      length-drop r ts,
      before_length t.stop (drop (k + 1) ts),
      slice_get_within ts k t h,
    )

-- all tokens of a line show something
pub are_full : {b : List ℕ} {ts : List Token} → AreOf b ts → AreFull b ts
are_full a = ap total_size a.shown ∙ (omega arith)

pub past_tree : {b : List ℕ} {ts : List Token} (k : ℕ) (t : Token) → AreOf b ts → slice_get ts k ≡ Some t
    → k + 1 + before t.stop (drop (k + 1) ts) ≡ k + size (tree_at b (spans_of ts) k)
past_tree {b} {ts} k t a h = past_full b ts k t (known b ts a).nested (are_full a) h

-- each token links past its tree
pub full_sized : (b : List ℕ) (ts : List Token) → AreNested ts → AreLinked ts → AreFull b ts → AreSized b ts
full_sized b ts nested linked whole = λ k t h. linked k t h ∙ past_full b ts k t nested whole h

pub are_sized : (b : List ℕ) (ts : List Token) → AreOf b ts → AreSized b ts
are_sized b ts a = full_sized b ts (known b ts a).nested a.linked (are_full a)

scan_sized : {b : List ℕ} {old new : BoundedList Token} {old_stack new_stack : BoundedList ℕ} → (t : Tree)
    × IsScanOf b t old new old_stack new_stack → AreSized b new.elements
scan_sized {b} {new} s = grind (arith, are_sized, s.0, s.1.json, s.1.shown, s.1.count, s.1.linked)

pub ran_sized : {b : List ℕ} {old new : BoundedList Token} {old_stack new_stack : BoundedList ℕ}
    (r : Result (Unit {0}) LineFault) → Ran b old new old_stack new_stack r → OnOk r (AreSized b new.elements)
ran_sized (Ok v) h = scan_sized (ran_tree (Ok v) h)
ran_sized (Err e) h = search rules

-- ---- a tree has no more values and names than bytes

items_size-add : (ts : Items) (t : Tree) → items_size (add_item ts t) ≡ items_size ts + size t
items_size-add no_items t = omega arith
items_size-add (item u ts) t = omega (arith, items_size-add ts t)

members_size-add : (ms : Members) (n : Atom) (t : Tree)
    → members_size (add_member ms n t) ≡ members_size ms + suc (size t)
members_size-add no_members n t = omega arith
members_size-add (member m u ms) n t = omega (arith, members_size-add ms n t)

named_room : {b : List ℕ} {i j : ℕ} {n : Atom} → Named b i j n → i < j
named_room (named i j k l w x y c) = omega arith

mutual
  value_room : {b : List ℕ} {i j : ℕ} {t : Tree} → Value b i j t → size t + i ≤ j
  value_room (atom k i j w) = omega arith
  value_room (empty_array i j o w c) = omega arith
  value_room (full_array i j k us u o l p c) = omega (arith, led_room l, padded_room p, items_size-add us u)
  value_room (empty_object i j o w c) = omega arith
  value_room (full_object i j k l us n u o ld nm p c) =
      grind (arith, members_size-add, named_room, padded_room p, led_members_room ld)

  padded_room : {b : List ℕ} {i j : ℕ} {t : Tree} → Padded b i j t → size t + i ≤ j
  padded_room (padded i j k l t w v x) = omega (arith, value_room v)

  led_room : {b : List ℕ} {i j : ℕ} {us : Items} → LedItems b i j us → items_size us + i ≤ j
  led_room (no_led i) = omega arith
  led_room (led i j k us u l p c) = omega (arith, led_room l, padded_room p, items_size-add us u)

  led_members_room : {b : List ℕ} {i j : ℕ} {us : Members} → LedMembers b i j us → members_size us + i ≤ j
  led_members_room (no_led_members i) = omega arith
  led_members_room (led_member i j k l us n u ld nm p c) =
      grind (arith, members_size-add, named_room, led_members_room ld, padded_room p)

-- ---- a walk over the tokens that start before a place

before_step : (ts : List Token) (j n : ℕ) (t : Token) → slice_get ts n ≡ Some t → t.start < j
    → before j (drop n ts) ≡ suc (before j (drop (suc n) ts))
before_step [] j n t h l = cc
before_step (u ∷ ts) j zero t h l = let q : u ≡ t = cc in before_one j u ts (rw q l)
before_step (u ∷ ts) j (suc n) t h l = before_step ts j n t h l

pub before_walked : (ts : List Token) (j k n : ℕ) (t : Token) → slice_get ts n ≡ Some t → t.start < j
    → k ≡ n + before j (drop n ts) → k ≡ n + 1 + before j (drop (n + 1) ts)
before_walked ts j k n t h l e = grind (arith, before_step)

pub before_stopped : (ts : List Token) (j n : ℕ) (t : Token) → slice_get ts n ≡ Some t → j ≤ t.start
    → before j (drop n ts) ≡ 0
before_stopped [] j n t h l = cc
before_stopped (u ∷ ts) j zero t h l = let q : u ≡ t = cc in before_zero j u ts (rw q l)
before_stopped (u ∷ ts) j (suc n) t h l = before_stopped ts j n t h l

pub before_end : (ts : List Token) (j n : ℕ) → length ts ≤ n → before j (drop n ts) ≡ 0
before_end [] j zero h = refl
before_end [] j (suc n) h = refl
before_end (t ∷ ts) j zero h = absurd (omega arith)
before_end (t ∷ ts) j (suc n) h = before_end ts j n (omega arith)

-- ---- trees that stand side by side start one after another

-- each starts before those after it
abbrev pub Rise : List Tree → Type 0
Rise [] = ⊤
Rise (t ∷ ts) = All (λ u. start_of t < start_of u) ts × Rise ts

-- those past a place start from it on
past_rises : (j : ℕ) (ts : List Tree) → Rise ts → Rise (past j ts) × All (λ u. j ≤ start_of u) (past j ts)
past_rises j [] r = (tt, All-nil (λ u. j ≤ start_of u))
past_rises j (t ∷ ts) r = grind (arith, past_on, past_here, All-cons, past_rises j ts r.1, r.1, r.0)

forest_rises : (b : List ℕ) (ss : List Span) → All (λ (s : Span). s.start < s.stop) ss → Rise (forest b ss)
unfolding forest
forest_rises b [] a = tt
forest_rises b (s ∷ ss) a =
    let r = past_rises s.stop (forest b ss) (forest_rises b ss (All-tail (λ (s : Span). s.start < s.stop) s ss a)) in
    let l = All-head (λ (s : Span). s.start < s.stop) s ss a in
    let e = start-node b (kind_by (byte b s.start)) s.start s.stop (held s.stop (forest b ss)) in
    (λ k d h. let g = r.1 k d h in omega arith, r.0)

spans_filled : (n : ℕ) (ts : List Token)
    → ((k : ℕ) (t : Token) → slice_get ts k ≡ Some t → (t.start < t.stop) × (t.stop ≤ n))
    → All (λ (s : Span). s.start < s.stop) (spans_of ts)
spans_filled n [] w = All-nil (λ (s : Span). s.start < s.stop)
spans_filled n (t ∷ ts) w =
    All-cons (λ (s : Span). s.start < s.stop) _ (spans_of ts) (w 0 t refl).0
    (spans_filled n ts (λ k u h. w (suc k) u h))

pub shown_rise : (line : List ℕ) (tokens : List Token) (k n : ℕ) → AreWithin line tokens
    → Rise (shown_between line tokens k n)
shown_rise line tokens k n w =
    forest_rises line (slice_range (spans_of tokens) k n)
    (All-take (λ (s : Span). s.start < s.stop) (n - k) (drop k (spans_of tokens))
    (All-drop (λ (s : Span). s.start < s.stop) k (spans_of tokens) (spans_filled (length line) tokens w)))

-- what holds of all trees holds of each pair of them
pairs_all : (P : Tree → Type 0) (Q : Tree × Tree → Type 0) → ((t u : Tree) → P t → P u → Q (t, u)) → (ts : List Tree)
    → All P ts → All Q (pairs_of ts)
pairs_all P Q f (t ∷ u ∷ ts) a =
    let later = All-tail P t (u ∷ ts) a in
    All-cons Q (t, u) (pairs_of ts) (f t u (All-head P t (u ∷ ts) a) (All-head P u ts later))
    (pairs_all P Q f ts (All-tail P u ts later))
pairs_all P Q f _ a = All-nil Q

pub pairs_rise : (ts : List Tree) → Rise ts → AreNamesInOrder (pairs_of ts)
pairs_rise (t ∷ u ∷ ts) r = (
  pairs_all (λ v. start_of t < start_of v) (λ m. start_of t < start_of m.0) (λ v w h g. h) ts
      (All-tail (λ v. start_of t < start_of v) u ts r.0),
  pairs_rise ts r.1.1,
)
pairs_rise _ r = tt

pub values_rise : (ts : List Tree) → Rise ts → AreValuesInOrder (pairs_of ts)
values_rise (t ∷ u ∷ ts) r = (
  pairs_all (λ v. start_of u < start_of v) (λ m. start_of u < start_of m.1) (λ v w h g. g) ts r.1.0,
  values_rise ts r.1.1,
)
values_rise _ r = tt
