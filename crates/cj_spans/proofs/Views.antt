-- The links of tokens, walks over them, and the trees that they show.
use Rattle.cj_spans.proofs.Common.{◌≡◌, ℕ, zero, suc, ◌+◌, ◌^◌, ◌<◌, ◌≤◌, List, [], ◌∷◌, ◌++◌, length, drop, slice_get, false, Some, refl, sym, ap, subst, arith, ◌∙◌, append_assoc, length-append, nat_tests, append-nil, length-drop, slice_get_within, Token, Atom, Tree, Items, Members, add_item, add_member, size, items_size, members_size, Value, atom, empty_array, full_array, empty_object, full_object, Padded, padded, LedItems, no_led, led, LedMembers, no_led_members, led_member, Named, named, Json, flatten, flatten_items, flatten_members, token_at, before, AreLinked, is_marked_at, AreUnmarked, slice_range, inl, inr, true, first_so, second_so, cases_lt, Kind, Null, Text, Object, scalar, start_of, byte, Span, spans_of, kind_by, held, past, atom_of, items_from, members_from, node, forest, kind_of, list_items, list_members, spelling_of, is_text, StopBefore, is_name, are_members, tree_at, pairs_of}
use Rattle.std.specs.Prelude.{nat_le}
use Rattle.std.specs.List.{AllByRecursion as Each}
use Rattle.cj_spans.proofs.Lists.{each_more, each_append, flatten_items-add, flatten_members-add, named_tokens, length-flatten, length-flatten_items, length-flatten_members}
use Rattle.cj_spans.proofs.Forests.{led_order, led_members_order, padded_ends, named_ends, past_on, start-node}
use Rattle.cj_spans.proofs.Spellings.{some_same}

-- ---- the links of the tokens of a tree, and the trees that come after them

-- ---- tokens that start before a place, and others

abbrev Before : ℕ → Token → Type 0
Before j t = t.start < j

-- the first starts at the place or after it
abbrev NotBefore : ℕ → List Token → Type 0
NotBefore j [] = Unit {0}
NotBefore j (t ∷ ts) = j ≤ t.start

pub before_one : (j : ℕ) (t : Token) (ts : List Token) → t.start < j → before j (t ∷ ts) ≡ suc (before j ts)
before_one j t ts h = grind (arith)

pub before_zero : (j : ℕ) (t : Token) (ts : List Token) → j ≤ t.start → before j (t ∷ ts) ≡ 0
before_zero j t ts h = grind (arith)

before_none : (j : ℕ) (ts : List Token) → NotBefore j ts → before j ts ≡ 0
before_none j [] h = refl
before_none j (t ∷ ts) h = before_zero j t ts h

pub before_length : (j : ℕ) (ts : List Token) → before j ts ≤ length ts
before_length j [] = omega arith
before_length j (t ∷ ts) = grind (arith, before_one, before_zero, before_length j ts, t.start)

before_all : (j : ℕ) (ts us : List Token) → Each (Before j) ts → NotBefore j us → before j (ts ++ us) ≡ length ts
before_all j [] us h n = before_none j us n
before_all j (t ∷ ts) us h n = before_one j t _ h.0 ∙ ap suc (before_all j ts us h.1 n)

not_before_less : (i j : ℕ) (ts : List Token) → i ≤ j → NotBefore j ts → NotBefore i ts
not_before_less i j [] l h = tt
not_before_less i j (t ∷ ts) l h = omega arith

not_before_append : (i j : ℕ) (ts us : List Token) → i ≤ j → NotBefore i ts → NotBefore j us → NotBefore i (ts ++ us)
not_before_append i j [] us l h g = not_before_less i j us l g
not_before_append i j (t ∷ ts) us l h g = h

-- ---- links

-- each of the tokens, which are at the indices from k on, links past those that start before it stops
abbrev AllLinked : ℕ → List Token → Type 0
AllLinked k [] = Unit {0}
AllLinked k (t ∷ ts) = (t.link ≡ suc k + before t.stop ts) × AllLinked (suc k) ts

-- tokens between two places, at the indices from k on, linked before any that are linked and start later
record Linked (i j k : ℕ) (ts : List Token) : Type 0 where
  all : Each (Before j) ts
  first : NotBefore i ts
  linked : (rest : List Token) (n : ℕ) → n ≡ k + length ts → NotBefore j rest → AllLinked n rest
      → AllLinked k (ts ++ rest)

linked_none : (i k : ℕ) → Linked i i k []
linked_none i k = grind arith

linked_more : {i j : ℕ} (k l : ℕ) {n : ℕ} {ts : List Token} → k ≤ i → j ≤ l → Linked i j n ts → Linked k l n ts
linked_more {i} {j} k l {ts} f g h = grind (arith, each_more, not_before_less, h.all, h.first, h.linked)

linked_both : {i j k n m : ℕ} {ts us : List Token} → i ≤ j → j ≤ k → m ≡ n + length ts → Linked i j n ts
    → Linked j k m us → Linked i k n (ts ++ us)
linked_both {i} {j} {k} {n} {m} {ts} {us} f g e h q = record {
  all = each_append _ ts us (each_more _ _ (λ t o. omega arith) ts h.all) q.all;
  first = not_before_append i j ts us f h.first q.first;
  linked = λ rest l d o p.
      let c = length-append ts us in
      subst (AllLinked n) (sym (append_assoc ts us rest))
      (h.linked (us ++ rest) m e (not_before_append j k us rest g q.first o) (q.linked rest l (omega arith) o p));
}

-- a token over others
linked_over : (i : ℕ) {j : ℕ} (n m : ℕ) {ts : List Token} → i < j → m ≡ suc n + length ts → Linked (suc i) j (suc n) ts
    → Linked i j n (token_at i j m ∷ ts)
linked_over i {j} n m {ts} o e h = grind (arith, before_all, h.all, h.linked)

linked_atom : (i j n : ℕ) → i < j → Linked i j n (token_at i j (suc n) ∷ [])
linked_atom i j n o = grind (arith, linked_over, linked_more, linked_none)

-- ---- the grammar

linked_named : {b : List ℕ} {i j : ℕ} {n : Atom} → Named b i j n → (k : ℕ)
    → Linked i j k (token_at n.start n.stop (suc k) ∷ [])
linked_named (named i j k l w x y c) m = grind (arith, linked_more, linked_atom, w.order, x.order)

linked_add : {i j k n : ℕ} (us : Items) (u : Tree) → i ≤ j → j ≤ k → Linked i j n (flatten_items n us)
    → Linked j k (n + items_size us) (flatten (n + items_size us) u) → Linked i k n (flatten_items n (add_item us u))
linked_add {i} {k} {n} us u f g h q =
    let e = length-flatten_items n us in
    subst (Linked i k n) (sym (flatten_items-add n us u)) (linked_both f g (omega arith) h q)

linked_add_member : {i j k l n : ℕ} (us : Members) (a : Atom) (u : Tree) → i ≤ j → j ≤ k → k ≤ l
    → Linked i j n (flatten_members n us) → let m = n + members_size us in
    Linked j k m (token_at a.start a.stop (suc m) ∷ []) → Linked k l (suc m) (flatten (suc m) u)
    → Linked i l n (flatten_members n (add_member us a u))
linked_add_member {i} {j} {l} {n} us a u f g h p q r =
    let m = n + members_size us in
    let e = length-flatten_members n us in
    let pair : Linked j l m (named_tokens m a u) = linked_both g h (omega arith) q r in
    subst (Linked i l n) (sym (flatten_members-add n us a u)) (linked_both f (omega arith) (omega arith) p pair)

mutual
  linked_value : {b : List ℕ} {i j : ℕ} {t : Tree} → Value b i j t → (n : ℕ) → Linked i j n (flatten n t)
  linked_value (atom k i j w) n = linked_atom i j n w.order
  linked_value (empty_array i j o w c) n = grind (arith, linked_over, linked_more, linked_none)
  linked_value (full_array i j k us u o l p c) n =
      let a = led_order l in let q = padded_ends p in let v = add_item us u in let e = length-flatten_items (suc n) v in
      linked_over i n (suc n + items_size v) (omega arith) (omega arith)
      (linked_more (suc i) (suc k) (omega arith) (omega arith)
      (linked_add us u a q (linked_led l (suc n)) (linked_padded p (suc n + items_size us))))
  linked_value (empty_object i j o w c) n = grind (arith, linked_over, linked_more, linked_none)
  linked_value (full_object i j k l us a u o ld nm p c) n =
      let f = led_members_order ld in let q = padded_ends p in let r = named_ends nm in let v = add_member us a u in
      let e = length-flatten_members (suc n) v in let m = suc n + members_size us in
      linked_over i n (suc n + members_size v) (omega arith) (omega arith)
      (linked_more (suc i) (suc l) (omega arith) (omega arith)
      (linked_add_member us a u f r q (linked_led_members ld (suc n)) (linked_named nm m)
      (linked_padded p (suc m))))

  linked_padded : {b : List ℕ} {i j : ℕ} {t : Tree} → Padded b i j t → (n : ℕ) → Linked i j n (flatten n t)
  linked_padded (padded i j k l t w v x) n = linked_more i l w.order x.order (linked_value v n)

  linked_led : {b : List ℕ} {i j : ℕ} {us : Items} → LedItems b i j us → (n : ℕ) → Linked i j n (flatten_items n us)
  linked_led (no_led i) n = linked_none i n
  linked_led (led i j k us u l p c) n =
      let a = led_order l in let q = padded_ends p in
      linked_more i (suc k) (omega arith) (omega arith)
      (linked_add us u a q (linked_led l n) (linked_padded p (n + items_size us)))

  linked_led_members : {b : List ℕ} {i j : ℕ} {us : Members} → LedMembers b i j us → (n : ℕ)
      → Linked i j n (flatten_members n us)
  linked_led_members (no_led_members i) n = linked_none i n
  linked_led_members (led_member i j k l us a u ld nm p c) n =
      let f = led_members_order ld in let q = padded_ends p in let r = named_ends nm in let m = n + members_size us in
      linked_more i (suc l) (omega arith) (omega arith)
      (linked_add_member us a u f r q (linked_led_members ld n) (linked_named nm m)
      (linked_padded p (suc m)))

link_at : (n k : ℕ) (ts : List Token) (t : Token) → AllLinked n ts → slice_get ts k ≡ Some t
    → t.link ≡ suc (n + k) + before t.stop (drop (suc k) ts)
link_at n k [] t h g = cc
link_at n zero (u ∷ ts) t h g = grind arith
link_at n (suc k) (u ∷ ts) t h g = omega (arith, link_at _ k ts t h.1 g)

-- the tokens of a line's tree link so, where they are few enough
json_links : (b : List ℕ) (t : Tree) → Json b t → size t < 2 ^ 31 → (k : ℕ) (u : Token)
    → slice_get (flatten 0 t) k ≡ Some u → (u.link < 2 ^ 31)
    × (u.link ≡ k + 1 + before u.stop (drop (k + 1) (flatten 0 t)))
json_links b t p few k u h =
    let a = subst (AllLinked 0) (append-nil (flatten 0 t)) ((linked_padded p 0).linked [] _ refl tt tt) in
    let next : suc k ≡ k + 1 = omega arith in
    let l = subst (λ m. u.link ≡ m + before u.stop (drop m (flatten 0 t))) next
    (let e = link_at 0 k (flatten 0 t) u a h in omega arith) in
    let inside = slice_get_within (flatten 0 t) k u h in
    let m = before_length u.stop (drop (k + 1) (flatten 0 t)) in
    let n = length-drop (k + 1) (flatten 0 t) in
    let o = length-flatten 0 t in
    (omega arith, l)

-- the tokens of a line's tree are linked, where they are few enough
pub json_linked : (b : List ℕ) (t : Tree) → Json b t → size t < 2 ^ 31 → AreLinked (flatten 0 t)
json_linked b t p few = grind (arith, json_links)

mark_none : (n : ℕ) → n < 2 ^ 31 → nat_le (2 ^ 31) n ≡ false
mark_none n h = grind (arith, nat_tests)

marks_none : (ts : List Token) → ((k : ℕ) (u : Token) → slice_get ts k ≡ Some u → u.link < 2 ^ 31) → (k : ℕ)
    → is_marked_at ts k ≡ false
marks_none [] h k = refl
marks_none (u ∷ ts) h zero = mark_none u.link (h 0 u refl)
marks_none (u ∷ ts) h (suc k) = marks_none ts (λ n v g. h (suc n) v g) k

-- and have no marks
pub json_unmarked : (b : List ℕ) (t : Tree) → Json b t → size t < 2 ^ 31 → AreUnmarked (flatten 0 t)
json_unmarked b t p few = marks_none _ (λ k u h. (json_links b t p few k u h).0)

-- ---- walks over tokens, and the trees that they show

-- ---- one tree at the front

pub below : (b : List ℕ) (ts : List Token) (k : ℕ) → k < length ts → (t : Token) × (slice_get ts k ≡ Some t)
    × (tree_at b (spans_of ts) k ≡ node b (kind_by (byte b t.start)) t.start t.stop
    (held t.stop (forest b (drop (suc k) (spans_of ts)))))
    × (forest b (drop k (spans_of ts)) ≡ tree_at b (spans_of ts) k
    ∷ past t.stop (forest b (drop (suc k) (spans_of ts))))
unfolding forest tree_at
below b [] k h = absurd (omega arith)
below b (t ∷ ts) zero h = (t, refl, refl, refl)
below b (t ∷ ts) (suc k) h = below b ts k (omega arith)

-- the k-th token is t, and what its tree and the trees from it on are
pub record Below (b : List ℕ) (ts : List Token) (k : ℕ) (t : Token) : Type 0 where
  pub found : slice_get ts k ≡ Some t
  pub tree : tree_at b (spans_of ts) k ≡ node b (kind_by (byte b t.start)) t.start t.stop
      (held t.stop (forest b (drop (k + 1) (spans_of ts))))
  pub front : forest b (drop k (spans_of ts)) ≡ tree_at b (spans_of ts) k
      ∷ past t.stop (forest b (drop (k + 1) (spans_of ts)))
  pub start : start_of (tree_at b (spans_of ts) k) ≡ t.start

pub below_at : (b : List ℕ) (ts : List Token) (k : ℕ) (t : Token) → slice_get ts k ≡ Some t → Below b ts k t
below_at b ts k t h =
    let r = below b ts k (slice_get_within ts k t h) in
    let e : suc k ≡ k + 1 = omega arith in
    let P : Token → Type 0 = λ t. Below b ts k t in
    subst P (some_same r.0 t (sym r.1 ∙ h))
    (record {
      found = r.1;
      tree = rw e at r.2;
      front = rw e at r.3;
      start = ap start_of r.2 ∙ start-node b (kind_by (byte b r.0.start)) r.0.start r.0.stop
          (held r.0.stop (forest b (drop (suc k) (spans_of ts))));
    })

-- ---- trees up to a place, and past it

pub past_here : (t : Tree) (ts : List Tree) (j : ℕ) → j ≤ start_of t → past j (t ∷ ts) ≡ t ∷ ts
past_here t ts j h = grind (arith)

pub held_none : (t : Tree) (ts : List Tree) (j : ℕ) → j ≤ start_of t → held j (t ∷ ts) ≡ []
held_none t ts j h = grind (arith)

pub past-past : (ts : List Tree) (i j : ℕ) → i ≤ j → past j (past i ts) ≡ past j ts
past-past [] i j h = refl
past-past (t ∷ ts) i j h = grind (arith, past_on, past_here, past-past ts i j h)

-- ---- a walk on, over tokens that start before the place

skip_one : {b : List ℕ} {ts : List Token} {k : ℕ} (j : ℕ) {t : Token} → Below b ts k t → t.start < j → t.stop ≤ j
    → past j (forest b (drop k (spans_of ts))) ≡ past j (forest b (drop (k + 1) (spans_of ts)))
skip_one {b} {ts} {k} j {t} h l o = grind (arith, past_on, past-past, h.front)

skip_end : {b : List ℕ} {ts : List Token} {k : ℕ} (j : ℕ) {t : Token} → Below b ts k t → j ≤ t.start
    → past j (forest b (drop k (spans_of ts))) ≡ forest b (drop k (spans_of ts))
skip_end {b} {ts} {k} j {t} h l = grind (arith, past_here, h.front)

drop_spans : (ts : List Token) (k : ℕ) → length ts ≤ k → drop k (spans_of ts) ≡ []
drop_spans [] zero h = refl
drop_spans [] (suc k) h = refl
drop_spans (t ∷ ts) zero h = absurd (omega arith)
drop_spans (t ∷ ts) (suc k) h = drop_spans ts k (omega arith)

forest_out : (b : List ℕ) (ts : List Token) (k : ℕ) → length ts ≤ k → forest b (drop k (spans_of ts)) ≡ []
unfolding forest
forest_out b ts k h = cc (drop_spans ts k h)

-- ---- the trees past a place are those from a link on

link_first : (b : List ℕ) (t : Token) (ts : List Token) (j r : ℕ) → t.start < j → t.stop ≤ j → r ≡ before j (t ∷ ts)
    → ((n : ℕ) → n ≡ before j ts → forest b (drop n (spans_of ts)) ≡ past j (forest b (spans_of ts)))
    → forest b (drop r (spans_of (t ∷ ts))) ≡ past j (forest b (spans_of (t ∷ ts)))
link_first b t ts j zero l o e next = absurd (omega (arith, before_one j t ts l))
link_first b t ts j (suc r) l o e next = let f = before_one j t ts l in
    next r (omega arith) ∙ sym (skip_one j (below_at b (t ∷ ts) 0 t refl) l o)

pub link_past : (b : List ℕ) (ts : List Token) (k j r : ℕ) → StopBefore ts k j → r ≡ k + before j (drop k ts)
    → forest b (drop r (spans_of ts)) ≡ past j (forest b (drop k (spans_of ts)))
link_past b [] k j r s e = cc (forest_out b [] r (omega arith), forest_out b [] k (omega arith))
link_past b (t ∷ ts) (suc k) j zero s e = absurd (omega arith)
link_past b (t ∷ ts) (suc k) j (suc r) s e =
    link_past b ts k j r (λ i u h g l. s (suc i) u (omega arith) g l) (omega arith)
link_past b (t ∷ ts) zero j r s e =
    elim (cases_lt t.start j) [
      | inl l ↦ link_first b t ts j r l (s 0 t (omega arith) refl l) (omega arith)
          (λ n f. link_past b ts 0 j n (λ i u h g l. s (suc i) u (omega arith) g l) (omega arith))
      | inr g ↦
          let f = before_zero j t ts g in
          let q : r ≡ 0 = omega arith in
          ap (λ n. forest b (drop n (spans_of (t ∷ ts)))) q
          ∙ sym (skip_end j (below_at b (t ∷ ts) 0 t refl) g)
    ]

-- ---- what a node shows

pub kind-node : (b : List ℕ) (k : Kind) (i j : ℕ) (ts : List Tree) → kind_of (node b k i j ts) ≡ k
kind-node b Null i j ts = refl
kind-node b _ i j ts = refl

spelling-node : (b : List ℕ) (k : Kind) (i j : ℕ) (ts : List Tree) → spelling_of b (node b k i j ts) ≡ slice_range b i j
spelling-node b Null i j ts = refl
spelling-node b _ i j ts = refl

pub list-items_from : (ts : List Tree) → list_items (items_from ts) ≡ ts
list-items_from [] = refl
list-items_from (t ∷ ts) = cc (list-items_from ts)

kind_text : (k : Kind) → is_text k ≡ true → k ≡ Text
kind_text Text h = refl
kind_text _ h = cc

name_is : (n : Tree) → is_name n ≡ true → n ≡ scalar Text (atom_of n)
name_is (scalar k a) h = cc (kind_text k h)
name_is _ h = cc

pub list-members_from : (ts : List Tree) → are_members ts ≡ true → pairs_of ts ≡ list_members (members_from ts)
list-members_from (n ∷ t ∷ ts) h =
    ap (λ m. (m, t) ∷ pairs_of ts) (name_is n (first_so _ _ h))
    ∙ ap (λ xs. (scalar Text (atom_of n), t) ∷ xs) (list-members_from ts (second_so _ _ h))
list-members_from _ h = refl

pub kind_object : (c : ℕ) → kind_by c ≡ Object → c ≡ 123
kind_object c h = grind (arith, nat_tests)

pub kind_shown : (b : List ℕ) (ts : List Token) (k : ℕ) (t : Token) {r : Kind} → slice_get ts k ≡ Some t
    → r ≡ kind_by (byte b t.start) → r ≡ kind_of (tree_at b (spans_of ts) k)
kind_shown b ts k t h e = let w = below_at b ts k t h in
    e ∙ sym (kind-node b (kind_by (byte b t.start)) t.start t.stop _) ∙ sym (ap kind_of w.tree)

pub start_shown : (b : List ℕ) (ts : List Token) (k : ℕ) (t : Token) → slice_get ts k ≡ Some t
    → t.start ≡ start_of (tree_at b (spans_of ts) k)
start_shown b ts k t h = sym (below_at b ts k t h).start

pub spelling_shown : (b : List ℕ) (ts : List Token) (k : ℕ) (t : Token) → slice_get ts k ≡ Some t
    → slice_range b t.start t.stop ≡ spelling_of b (tree_at b (spans_of ts) k)
spelling_shown b ts k t h = let w = below_at b ts k t h in
    sym (spelling-node b (kind_by (byte b t.start)) t.start t.stop _) ∙ sym (ap (spelling_of b) w.tree)

-- ---- no more trees than tokens

length-past : (j : ℕ) (ts : List Tree) → length (past j ts) ≤ length ts
length-past j [] = omega arith
length-past j (t ∷ ts) = grind (arith, past_on, past_here, length-past j ts)

pub length-forest : (b : List ℕ) (ss : List Span) → length (forest b ss) ≤ length ss
unfolding forest
length-forest b [] = omega arith
length-forest b (s ∷ ss) = grind (arith, length-past, length-forest b ss)

pub length-pairs : (ts : List Tree) → length (pairs_of ts) ≤ length ts
length-pairs (n ∷ t ∷ ts) = omega (arith, length-pairs ts)
length-pairs _ = omega arith
