-- The spans of a tree show that tree.
use Rattle.cj_spans.proofs.Common.{◌≡◌, ℕ, suc, ◌<◌, ◌≤◌, List, [], ◌∷◌, ◌++◌, get_or, refl, sym, ap, subst, arith, ◌∙◌, append_assoc, append-nil, nat_tests, Kind, Null, Truth, Number, Text, Array, Object, Atom, Tree, scalar, array, object, Items, no_items, item, Members, no_members, member, add_item, add_member, start_of, IsScalar, IsInt, byte, atom_at, IsAtom, Value, atom, empty_array, full_array, empty_object, full_object, Padded, padded, LedItems, no_led, led, LedMembers, no_led_members, led_member, Named, named, Json, Span, span_at, preorder, items_preorder, members_preorder, kind_by, held, past, items_from, members_from, node, forest}
use Rattle.std.specs.List.{AllByRecursion as Each}
use Rattle.cj_spans.proofs.Lists.{each_more, each_append, items_preorder-add, members_preorder-add}
use Rattle.cj_spans.proofs.Places.{first_byte}

-- ---- the kind that the first byte tells

digit_kind : (c : ℕ) → 48 ≤ c → c ≤ 57 → kind_by c ≡ Number
digit_kind c a b = grind (arith, nat_tests)

int_kind : (int r : List ℕ) → IsInt int → kind_by (get_or (int ++ r) 0 0) ≡ Number
int_kind [] r h = absurd h
int_kind (c ∷ int) r h = grind (arith, digit_kind)

kind_first : (k : Kind) (s : List ℕ) → IsScalar k s → kind_by (get_or s 0 0) ≡ k
kind_first Null s h = cc
kind_first Truth s h = grind arith
kind_first Number s h = grind (arith, int_kind, h.joined, h.minus_is, h.int_is)
kind_first Text s h = cc h.joined
kind_first _ s h = absurd h

pub atom_kind : {b : List ℕ} {k : Kind} {i j : ℕ} → IsAtom b k i j → kind_by (byte b i) ≡ k
atom_kind {b} {k} {i} {j} w = cc (first_byte b i j w.order w.within, kind_first k _ w.spelled)

-- ---- trees up to a place, and past it

abbrev pub Beyond : ℕ → List Tree → Type 0
Beyond j [] = Unit {0}
Beyond j (t ∷ ts) = j ≤ start_of t

abbrev In : ℕ → Tree → Type 0
In j t = start_of t < j

beyond_less : (i j : ℕ) (ts : List Tree) → i ≤ j → Beyond j ts → Beyond i ts
beyond_less i j [] h b = tt
beyond_less i j (t ∷ ts) h b = omega arith

pub held_on : (t : Tree) (ts : List Tree) (j : ℕ) → start_of t < j → held j (t ∷ ts) ≡ t ∷ held j ts
held_on t ts j h = grind (arith)

pub past_on : (t : Tree) (ts : List Tree) (j : ℕ) → start_of t < j → past j (t ∷ ts) ≡ past j ts
past_on t ts j h = grind (arith)

held_beyond : (j : ℕ) (ts : List Tree) → Beyond j ts → held j ts ≡ []
held_beyond j [] h = refl
held_beyond j (t ∷ ts) h = grind (arith)

past_beyond : (j : ℕ) (ts : List Tree) → Beyond j ts → past j ts ≡ ts
past_beyond j [] h = refl
past_beyond j (t ∷ ts) h = grind (arith)

pub held_all : (j : ℕ) (xs ys : List Tree) → Each (In j) xs → Beyond j ys → held j (xs ++ ys) ≡ xs
held_all j [] ys a b = held_beyond j ys b
held_all j (x ∷ xs) ys a b = cc (held_on x _ j a.0, held_all j xs ys a.1 b)

past_all : (j : ℕ) (xs ys : List Tree) → Each (In j) xs → Beyond j ys → past j (xs ++ ys) ≡ ys
past_all j [] ys a b = past_beyond j ys b
past_all j (x ∷ xs) ys a b = past_on x _ j a.0 ∙ past_all j xs ys a.1 b

-- the trees of items, and those of members, each name before its value
abbrev list_of_items : Items → List Tree
list_of_items no_items = []
list_of_items (item t ts) = t ∷ list_of_items ts

abbrev pub names_and_values : Members → List Tree
names_and_values no_members = []
names_and_values (member n t ms) = scalar Text n ∷ t ∷ names_and_values ms

items_from-list : (us : Items) → items_from (list_of_items us) ≡ us
items_from-list no_items = refl
items_from-list (item t us) = ap (item t) (items_from-list us)

members_from-list : (us : Members) → members_from (names_and_values us) ≡ us
members_from-list no_members = refl
members_from-list (member n t us) = cc (members_from-list us)

list-add : (us : Items) (t : Tree) → list_of_items (add_item us t) ≡ list_of_items us ++ t ∷ []
list-add no_items t = refl
list-add (item u us) t = cc (list-add us t)

names-add : (us : Members) (n : Atom) (t : Tree) → names_and_values (add_member us n t) ≡ names_and_values us
    ++ (scalar Text n ∷ t ∷ [])
names-add no_members n t = refl
names-add (member m u us) n t = cc (names-add us n t)

-- ---- places in the grammar

pub record Within (i j : ℕ) (t : Tree) : Type 0 where
  pub start : start_of t ≡ i
  pub order : i < j

mutual
  pub within : {b : List ℕ} {i j : ℕ} {t : Tree} → Value b i j t → Within i j t
  within (atom k i j w) = record { start = refl; order = w.order }
  within (empty_array i j o w c) = record { start = refl; order = omega arith }
  within (full_array i j k us u o l p c) = grind (arith, padded_order p, led_order l)
  within (empty_object i j o w c) = record { start = refl; order = omega arith }
  within (full_object i j k l us n u o ld nm p c) = grind (arith, padded_order p, led_members_order ld, named_order nm)

  pub padded_order : {b : List ℕ} {i j : ℕ} {t : Tree} → Padded b i j t → (i ≤ start_of t) × (start_of t < j)
  padded_order (padded i j k l t w v x) = let a = within v in (omega arith, omega arith)

  pub led_order : {b : List ℕ} {i j : ℕ} {us : Items} → LedItems b i j us → i ≤ j
  led_order (no_led i) = omega arith
  led_order (led i j k us u l p c) = omega (arith, led_order l, padded_order p)

  pub led_members_order : {b : List ℕ} {i j : ℕ} {us : Members} → LedMembers b i j us → i ≤ j
  led_members_order (no_led_members i) = omega arith
  led_members_order (led_member i j k l us n u ld nm p c) =
      omega (arith, led_members_order ld, padded_order p, named_order nm)

  pub named_order : {b : List ℕ} {i j : ℕ} {n : Atom} → Named b i j n → (i ≤ n.start) × (n.start < n.stop)
      × (n.stop < j)
  named_order (named i j k l w x y c) = (omega arith, omega arith, omega arith)

pub padded_ends : {b : List ℕ} {i j : ℕ} {t : Tree} → Padded b i j t → i ≤ j
padded_ends p =
    let q = padded_order p in omega arith

pub named_ends : {b : List ℕ} {i j : ℕ} {n : Atom} → Named b i j n → i ≤ j
named_ends p =
    let q = named_order p in omega arith

-- ---- spans that show trees

pub start-node : (b : List ℕ) (k : Kind) (i j : ℕ) (ts : List Tree) → start_of (node b k i j ts) ≡ i
start-node b Null i j ts = refl
start-node b _ i j ts = refl

-- a span that holds these trees and no more
shown : (b : List ℕ) (i j : ℕ) {k : Kind} (ss : List Span) (xs ys : List Tree) → kind_by (byte b i) ≡ k
    → forest b ss ≡ xs ++ ys → Each (In j) xs → Beyond j ys → forest b (span_at i j ∷ ss) ≡ node b k i j xs ∷ ys
unfolding forest
shown b i j ss xs ys kd e a o = cc (held_all j xs ys a o, past_all j xs ys a o)

scalar_node : {b : List ℕ} (k : Kind) {i j : ℕ} → IsAtom b k i j → node b k i j [] ≡ scalar k (atom_at b i j)
scalar_node Array w = absurd w.spelled
scalar_node Object w = absurd w.spelled
scalar_node _ w = refl

-- the trees all start before the place j, and are shown before what follows
pub record Shows (b : List ℕ) (j : ℕ) (ss : List Span) (xs : List Tree) : Type 0 where
  pub all : Each (In j) xs
  pub shows : (rest : List Span) → Beyond j (forest b rest) → forest b (ss ++ rest) ≡ xs ++ forest b rest

shows_none : (b : List ℕ) (j : ℕ) → Shows b j [] []
shows_none b j = record { all = tt; shows = λ rest h. refl }

-- two after one another
shows_both : {b : List ℕ} {i j : ℕ} {ts us : List Span} {xs : List Tree} (y : Tree) (ys : List Tree) → i ≤ j
    → i ≤ start_of y → Shows b i ts xs → Shows b j us (y ∷ ys) → Shows b j (ts ++ us) (xs ++ y ∷ ys)
shows_both {b} {i} {j} {ts} {us} {xs} y ys o l a c = record {
  all = each_append (In j) xs _ (each_more (In i) (In j) (λ t l. omega arith) xs a.all) c.all;
  shows = λ rest h.
      let e = c.shows rest h in
      ap (forest b) (append_assoc ts us rest) ∙ a.shows (us ++ rest) (subst (Beyond i) (sym e) l) ∙ ap (λ z. xs ++ z) e
      ∙ sym (append_assoc xs _ _);
}

shows_atom : {b : List ℕ} {k : Kind} {i j : ℕ} → IsAtom b k i j
    → Shows b j (span_at i j ∷ []) (scalar k (atom_at b i j) ∷ [])
shows_atom {b} {k} {i} {j} w = record {
  all = (w.order, tt);
  shows = λ rest h. shown b i j rest [] _ (atom_kind w) refl tt h
      ∙ ap (λ z. z ∷ forest b rest) (scalar_node k w);
}

pub shows_named : {b : List ℕ} {i j : ℕ} {n : Atom} → Named b i j n
    → Shows b n.stop (span_at n.start n.stop ∷ []) (scalar Text n ∷ [])
shows_named (named i j k l w x y c) = shows_atom x

-- a container that holds these
shows_container : {b : List ℕ} (i : ℕ) {j : ℕ} (k : Kind) (ss : List Span) (xs : List Tree) {t : Tree} → i < j
    → kind_by (byte b i) ≡ k → Shows b j ss xs → node b k i j xs ≡ t → start_of t ≡ i
    → Shows b j (span_at i j ∷ ss) (t ∷ [])
shows_container {b} i {j} k ss xs o kd a e s = grind (arith, shown, a.shows, a.all)

pub shows_more : {b : List ℕ} {i : ℕ} (j : ℕ) {ss : List Span} {xs : List Tree} → i ≤ j → Shows b i ss xs
    → Shows b j ss xs
shows_more {b} {i} j {xs} o a = grind (arith, each_more, beyond_less, a.all, a.shows)

pub shows_add : {b : List ℕ} {i j k : ℕ} {us : Items} {u : Tree} → LedItems b i j us → Padded b j k u
    → Shows b j (items_preorder us) (list_of_items us) → Shows b k (preorder u) (u ∷ [])
    → Shows b k (items_preorder (add_item us u)) (list_of_items (add_item us u))
shows_add {b} {k} {us} {u} l p f g =
    let q = padded_order p in
    let h = shows_both u [] (omega arith) q.0 f g in
    rw (items_preorder-add us u) (subst (Shows b k (items_preorder us ++ preorder u)) (sym (list-add us u)) h)

pub shows_add_member : {b : List ℕ} {i j k l : ℕ} {us : Members} {n : Atom} {u : Tree} → LedMembers b i j us
    → Named b j k n → Padded b k l u → Shows b j (members_preorder us) (names_and_values us)
    → Shows b l (preorder u) (u ∷ [])
    → Shows b l (members_preorder (add_member us n u)) (names_and_values (add_member us n u))
shows_add_member {b} {l} {us} {n} {u} ld nm p f g =
    let q = padded_order p in let r = named_order nm in
    let w = scalar Text n in
    let pair = shows_both u [] (omega arith) (omega (arith, q.0)) (shows_named nm) g in
    let h = shows_both w _ (omega arith) r.0 f pair in
    rw (members_preorder-add us n u)
    (subst (Shows b l (members_preorder us ++ span_at n.start n.stop ∷ preorder u)) (sym (names-add us n u)) h)

mutual
  shows_value : {b : List ℕ} {i j : ℕ} {t : Tree} → Value b i j t → Shows b j (preorder t) (t ∷ [])
  shows_value (atom k i j w) = shows_atom w
  shows_value {b} (empty_array i j o w c) =
      shows_container i Array [] [] {t = array i (suc j) no_items} (omega arith) (ap kind_by o)
      (shows_none b _) refl refl
  shows_value (full_array i j k us u o l p c) =
      let v = add_item us u in let a = led_order l in let q = padded_order p in
      let e = ap (array i (suc k)) (items_from-list v) in
      shows_container i Array _ _ (omega arith)
      (ap kind_by o) (shows_more _ (omega arith) (shows_add l p (shows_led l) (shows_padded p))) e
      refl
  shows_value {b} (empty_object i j o w c) =
      shows_container i Object [] [] {t = object i (suc j) no_members} (omega arith) (ap kind_by o)
      (shows_none b _) refl refl
  shows_value (full_object i j k l us n u o ld nm p c) =
      let v = add_member us n u in let a = led_members_order ld in let q = padded_order p in let r = named_order nm in
      let e = ap (object i (suc l)) (members_from-list v) in
      shows_container i Object _ _ (omega arith)
      (ap kind_by o) (shows_more _ (omega arith)
      (shows_add_member ld nm p (shows_led_members ld) (shows_padded p))) e refl

  pub shows_padded : {b : List ℕ} {i j : ℕ} {t : Tree} → Padded b i j t → Shows b j (preorder t) (t ∷ [])
  shows_padded (padded i j k l t w v x) = shows_more l x.order (shows_value v)

  pub shows_led : {b : List ℕ} {i j : ℕ} {us : Items} → LedItems b i j us
      → Shows b j (items_preorder us) (list_of_items us)
  shows_led {b} (no_led i) = shows_none b i
  shows_led (led i j k us u l p c) = shows_more (suc k) (omega arith) (shows_add l p (shows_led l) (shows_padded p))

  pub shows_led_members : {b : List ℕ} {i j : ℕ} {us : Members} → LedMembers b i j us
      → Shows b j (members_preorder us) (names_and_values us)
  shows_led_members {b} (no_led_members i) = shows_none b i
  shows_led_members (led_member i j k l us n u ld nm p c) =
      shows_more (suc l) (omega arith) (shows_add_member ld nm p (shows_led_members ld) (shows_padded p))

-- the spans of a JSON text show its tree and no other
pub json_shown : (b : List ℕ) (t : Tree) → Json b t → forest b (preorder t) ≡ t ∷ []
unfolding forest
json_shown b t p = cc (append-nil _, (shows_padded p).shows [] tt)

pub tree_by_preorder : (b : List ℕ) (t u : Tree) → Json b t → Json b u → preorder t ≡ preorder u → t ≡ u
tree_by_preorder b t u p q e = grind (arith, json_shown)
