-- Lists of tokens, and what the machine adds to them over a value.
use Rattle.cj_spans.proofs.Common.{◌≡◌, ℕ, zero, suc, ◌+◌, ◌<◌, ◌≤◌, List, [], ◌∷◌, ◌++◌, length, max, Some, refl, ap, arith, append_assoc, slice_get, slice_set, length-append, append-nil, set-append_seam, Token, Atom, Tree, scalar, array, object, Items, no_items, item, Members, no_members, member, add_item, add_member, size, items_size, members_size, nest, items_nest, members_nest, span_at, preorder, items_preorder, members_preorder, flatten, flatten_items, flatten_members, token_at, spans_of, common_steps, sym, subst, Mode, Ready, FirstItem, After, FirstName, NextName, AfterName, Value, atom, empty_array, full_array, empty_object, full_object, Padded, padded, LedItems, no_led, led, LedMembers, no_led_members, led_member, Named, named, Json, State, step, Reaches, here, on, start, BeginsValue}
use Rattle.std.specs.List.{AllByRecursion as Each}
use Rattle.cj_spans.proofs.Places.{run_atom, run_name}
use Rattle.cj_spans.proofs.Facts.{IsEnd, comma, colon, bracket, brace, Arrives, arrive_on, arrived, skip, skip_after, BeginsName, idle}

-- ---- lists of tokens, and the nest of a tree as the most containers that are open

-- ---- what holds of each element

pub each_more : {A : Type 0} (P Q : A → Type 0) → ((x : A) → P x → Q x) → (xs : List A) → Each P xs → Each Q xs
each_more P Q f [] h = tt
each_more P Q f (x ∷ xs) h = (f x h.0, each_more P Q f xs h.1)

pub each_append : {A : Type 0} (P : A → Type 0) (xs ys : List A) → Each P xs → Each P ys → Each P (xs ++ ys)
each_append P [] ys h g = g
each_append P (x ∷ xs) ys h g = (h.0, each_append P xs ys h.1 g)

-- ---- one more part at the end

pub flatten_items-add : (k : ℕ) (ts : Items) (t : Tree) → flatten_items k (add_item ts t) ≡ flatten_items k ts
    ++ flatten (k + items_size ts) t
flatten_items-add k no_items t = let e : k ≡ k + 0 = omega arith in cc (append-nil _)
flatten_items-add k (item u ts) t =
    let j = k + size u in
    let e : j + items_size ts ≡ k + (size u + items_size ts) = omega arith in
    cc (flatten_items-add j ts t, append_assoc _ _ _)

-- a name and its value, at the indices from k on
abbrev pub named_tokens : ℕ → Atom → Tree → List Token
named_tokens k n t = token_at n.start n.stop (suc k) ∷ flatten (suc k) t

pub flatten_members-add : (k : ℕ) (ms : Members) (n : Atom) (t : Tree)
    → flatten_members k (add_member ms n t) ≡ flatten_members k ms ++ named_tokens (k + members_size ms) n t
flatten_members-add k no_members n t =
    let e : k ≡ k + 0 = omega arith in cc (append-nil _)
flatten_members-add k (member m u ms) n t =
    let j = suc k + size u in
    let e : j + members_size ms ≡ k + suc (size u + members_size ms) = omega arith in
    cc (flatten_members-add j ms n t, append_assoc _ _ _)

pub items_preorder-add : (ts : Items) (t : Tree) → items_preorder (add_item ts t) ≡ items_preorder ts ++ preorder t
items_preorder-add no_items t = append-nil _
items_preorder-add (item u ts) t = cc (items_preorder-add ts t, append_assoc _ _ _)

pub members_preorder-add : (ms : Members) (n : Atom) (t : Tree)
    → members_preorder (add_member ms n t) ≡ members_preorder ms ++ span_at n.start n.stop ∷ preorder t
members_preorder-add no_members n t = cc (append-nil _)
members_preorder-add (member m u ms) n t = cc (
  members_preorder-add ms n t,
  append_assoc _ _ _,
)

-- ---- as many tokens as the size says, and where they are

spans_of-append : (xs ys : List Token) → spans_of (xs ++ ys) ≡ spans_of xs ++ spans_of ys
spans_of-append [] ys = refl
spans_of-append (x ∷ xs) ys = cc (spans_of-append xs ys)

mutual
  pub length-flatten : (k : ℕ) (t : Tree) → length (flatten k t) ≡ size t
  length-flatten k (scalar kd a) = refl
  length-flatten k (array i j ts) = ap suc (length-flatten_items (suc k) ts)
  length-flatten k (object i j ms) = ap suc (length-flatten_members (suc k) ms)

  pub length-flatten_items : (k : ℕ) (ts : Items) → length (flatten_items k ts) ≡ items_size ts
  length-flatten_items k no_items = refl
  length-flatten_items k (item t ts) = omega (
    arith,
    length-append (flatten k t) (flatten_items (k + size t) ts),
    length-flatten k t,
    length-flatten_items (k + size t) ts,
  )

  pub length-flatten_members : (k : ℕ) (ms : Members) → length (flatten_members k ms) ≡ members_size ms
  length-flatten_members k no_members = refl
  length-flatten_members k (member n t ms) =
      let j = suc k + size t in omega (
        arith,
        length-append (flatten (suc k) t) (flatten_members j ms),
        length-flatten (suc k) t,
        length-flatten_members j ms,
      )

mutual
  pub spans_of-flatten : (k : ℕ) (t : Tree) → spans_of (flatten k t) ≡ preorder t
  spans_of-flatten k (scalar kd a) = refl
  spans_of-flatten k (array i j ts) = cc (spans_of-flatten_items _ ts)
  spans_of-flatten k (object i j ms) = cc (spans_of-flatten_members _ ms)

  spans_of-flatten_items : (k : ℕ) (ts : Items) → spans_of (flatten_items k ts) ≡ items_preorder ts
  spans_of-flatten_items k no_items = refl
  spans_of-flatten_items k (item t ts) =
      let us = flatten_items (k + size t) ts in
      cc (spans_of-append _ us, spans_of-flatten k t, spans_of-flatten_items _ ts)

  spans_of-flatten_members : (k : ℕ) (ms : Members) → spans_of (flatten_members k ms) ≡ members_preorder ms
  spans_of-flatten_members k no_members = refl
  spans_of-flatten_members k (member n t ms) =
      let us = flatten_members (suc k + size t) ms in
      cc (spans_of-append _ us, spans_of-flatten _ t, spans_of-flatten_members _ ms)

-- ---- elements

pub slice_get-append : {A : Type 0} (xs ys : List A) (i : ℕ) (x : A) → slice_get xs i ≡ Some x
    → slice_get (xs ++ ys) i ≡ Some x
slice_get-append [] ys i x h = cc
slice_get-append (z ∷ xs) ys zero x h = h
slice_get-append (z ∷ xs) ys (suc i) x h = slice_get-append xs ys i x h

pub slice_get-seam : {A : Type 0} (xs ys : List A) (x : A) → slice_get (xs ++ x ∷ ys) (length xs) ≡ Some x
slice_get-seam [] ys x = refl
slice_get-seam (z ∷ xs) ys x = slice_get-seam xs ys x

-- a token before the one that is set
pub get_before : (ts : List Token) (k j : ℕ) (u : Token) → j < k → slice_get (slice_set ts k u) j ≡ slice_get ts j
get_before [] k j u l = refl
get_before (z ∷ ts) zero j u l = absurd (omega arith)
get_before (z ∷ ts) (suc k) zero u l = refl
get_before (z ∷ ts) (suc k) (suc j) u l = get_before ts k j u (omega arith)

-- ---- the tokens of an open container, whose first part is at the index k

pub length-snoc : (ts : List Token) (o : Token) → length (ts ++ o ∷ []) ≡ suc (length ts)
length-snoc ts o = omega (arith, length-append ts (o ∷ []))

-- one item more
pub items_more : (xs : List Token) {k : ℕ} (us : Items) (u : Tree) → length xs ≡ k → let vs =
    xs ++ flatten_items k us in vs ++ flatten (length vs) u ≡ xs ++ flatten_items k (add_item us u)
items_more xs {k} us u h = grind (arith, common_steps, length-flatten_items, flatten_items-add)

-- one member more
pub members_more : (xs : List Token) {k : ℕ} (us : Members) (n : Atom) (u : Tree) → length xs ≡ k
    → let vs = xs ++ flatten_members k us in let ws = vs ++ token_at n.start n.stop (suc (length vs)) ∷ [] in
    ws ++ flatten (length ws) u ≡ xs ++ flatten_members k (add_member us n u)
members_more xs {k} us n u h =
    grind (arith, common_steps, length-flatten_members, length-snoc, flatten_members-add, n.start, n.stop)

-- the token of a container is written where its place is
set_closed : (ts : List Token) (o f : Token) (xs : List Token) → slice_set ((ts ++ o ∷ []) ++ xs) (length ts) f ≡ ts
    ++ f ∷ xs
set_closed ts o f xs = cc (append_assoc ts _ xs, set-append_seam ts o xs f)

-- the container ends with the tokens of its parts
pub array_done : (ts : List Token) (o : Token) (i j : ℕ) (us : Items) → let vs =
    (ts ++ o ∷ []) ++ flatten_items (suc (length ts)) us in
    slice_set vs (length ts) (token_at i j (length vs)) ≡ ts ++ flatten (length ts) (array i j us)
array_done ts o i j us = grind (arith, common_steps, length-flatten_items, length-snoc, set_closed)

pub object_done : (ts : List Token) (o : Token) (i j : ℕ) (us : Members) → let vs =
    (ts ++ o ∷ []) ++ flatten_members (suc (length ts)) us in
    slice_set vs (length ts) (token_at i j (length vs)) ≡ ts ++ flatten (length ts) (object i j us)
object_done ts o i j us = grind (arith, common_steps, length-flatten_members, length-snoc, set_closed)

-- the same of one that is empty
pub array_empty : (ts : List Token) (o : Token) (i j : ℕ)
    → slice_set (ts ++ o ∷ []) (length ts) (token_at i j (length (ts ++ o ∷ []))) ≡ ts
    ++ flatten (length ts) (array i j no_items)
array_empty ts o i j = cc (append-nil _, array_done ts o i j no_items)

pub object_empty : (ts : List Token) (o : Token) (i j : ℕ)
    → slice_set (ts ++ o ∷ []) (length ts) (token_at i j (length (ts ++ o ∷ []))) ≡ ts
    ++ flatten (length ts) (object i j no_members)
object_empty ts o i j = cc (append-nil _, object_done ts o i j no_members)

-- ---- the most containers that are open

-- the most containers that were open after a tree that stands in d, where it was p before
abbrev mutual
  pub rise : ℕ → ℕ → Tree → ℕ
  rise d p (scalar k a) = p
  rise d p (array i j ts) = rise_items (suc d) (max p (suc d)) ts
  rise d p (object i j ms) = rise_members (suc d) (max p (suc d)) ms

  pub rise_items : ℕ → ℕ → Items → ℕ
  rise_items d p no_items = p
  rise_items d p (item t ts) = rise_items d (rise d p t) ts

  pub rise_members : ℕ → ℕ → Members → ℕ
  rise_members d p no_members = p
  rise_members d p (member n t ms) = rise_members d (rise d p t) ms

pub rise_items-add : (d p : ℕ) (ts : Items) (t : Tree) → rise_items d p (add_item ts t) ≡ rise d (rise_items d p ts) t
rise_items-add d p no_items t = refl
rise_items-add d p (item u ts) t = rise_items-add d (rise d p u) ts t

pub rise_members-add : (d p : ℕ) (ms : Members) (n : Atom) (t : Tree)
    → rise_members d p (add_member ms n t) ≡ rise d (rise_members d p ms) t
rise_members-add d p no_members n t = refl
rise_members-add d p (member m u ms) n t = rise_members-add d (rise d p u) ms n t

mutual
  pub rise-nest : (d p : ℕ) (t : Tree) → d ≤ p → rise d p t ≡ max p (d + nest t)
  rise-nest d p (scalar k a) h = omega arith
  rise-nest d p (array i j ts) h = omega (arith, rise_items-nest (suc d) (max p (suc d)) ts (omega arith))
  rise-nest d p (object i j ms) h = omega (arith, rise_members-nest (suc d) (max p (suc d)) ms (omega arith))

  rise_items-nest : (d p : ℕ) (ts : Items) → d ≤ p → rise_items d p ts ≡ max p (d + items_nest ts)
  rise_items-nest d p no_items h = omega arith
  rise_items-nest d p (item t ts) h = let e = rise-nest d p t h in
      let f = rise_items-nest d (rise d p t) ts (omega arith) in omega arith

  rise_members-nest : (d p : ℕ) (ms : Members) → d ≤ p → rise_members d p ms ≡ max p (d + members_nest ms)
  rise_members-nest d p no_members h = omega arith
  rise_members-nest d p (member n t ms) h = let e = rise-nest d p t h in
      let f = rise_members-nest d (rise d p t) ms (omega arith) in omega arith

-- ---- over a value the machine adds the value's tokens, and is where it was

is_end : {c : ℕ} {d : ℕ} → IsEnd d → c ≡ d → IsEnd c
is_end e h = subst IsEnd (sym h) e

-- ---- single steps

pub open_array : (m : Mode) (ks : List ℕ) (ts : List Token) (i p : ℕ) {c : ℕ} → BeginsValue m → c ≡ 91
    → step c (idle m ks ts i p)
    ≡ Some (idle FirstItem (length ts ∷ ks) (ts ++ token_at i 0 0 ∷ []) (suc i) (max p (suc (length ks))))
open_array Ready ks ts i p h e = cc
open_array FirstItem ks ts i p h e = cc
open_array _ ks ts i p h e = absurd h

pub open_object : (m : Mode) (ks : List ℕ) (ts : List Token) (i p : ℕ) {c : ℕ} → BeginsValue m → c ≡ 123
    → step c (idle m ks ts i p)
    ≡ Some (idle FirstName (length ts ∷ ks) (ts ++ token_at i 0 1 ∷ []) (suc i) (max p (suc (length ks))))
open_object Ready ks ts i p h e = cc
open_object FirstItem ks ts i p h e = cc
open_object _ ks ts i p h e = absurd h

module _ (k : ℕ) (ks : List ℕ) (ts : List Token) (j p a : ℕ) {c : ℕ} where
  end_empty_array : c ≡ 93 → slice_get ts k ≡ Some (token_at a 0 0)
      → step c (idle FirstItem (k ∷ ks) ts j p)
      ≡ Some (idle After ks (slice_set ts k (token_at a (suc j) (length ts))) (suc j) p)
  end_empty_array e h = rw (e, h)

  end_array : c ≡ 93 → slice_get ts k ≡ Some (token_at a 0 0)
      → step c (idle After (k ∷ ks) ts j p)
      ≡ Some (idle After ks (slice_set ts k (token_at a (suc j) (length ts))) (suc j) p)
  end_array e h = rw (e, h)

  more_items : c ≡ 44 → slice_get ts k ≡ Some (token_at a 0 0)
      → step c (idle After (k ∷ ks) ts j p) ≡ Some (idle Ready (k ∷ ks) ts (suc j) p)
  more_items e h = rw (e, h)

  end_empty_object : c ≡ 125 → slice_get ts k ≡ Some (token_at a 0 1)
      → step c (idle FirstName (k ∷ ks) ts j p)
      ≡ Some (idle After ks (slice_set ts k (token_at a (suc j) (length ts))) (suc j) p)
  end_empty_object e h = rw (e, h)

  end_object : c ≡ 125 → slice_get ts k ≡ Some (token_at a 0 1)
      → step c (idle After (k ∷ ks) ts j p)
      ≡ Some (idle After ks (slice_set ts k (token_at a (suc j) (length ts))) (suc j) p)
  end_object e h = rw (e, h)

  more_members : c ≡ 44 → slice_get ts k ≡ Some (token_at a 0 1)
      → step c (idle After (k ∷ ks) ts j p) ≡ Some (idle NextName (k ∷ ks) ts (suc j) p)
  more_members e h = rw (e, h)

-- ---- names and values

pub run_named : {b : List ℕ} {i l : ℕ} {a : Atom} → Named b i l a
    → {s : State} (m : Mode) (ks : List ℕ) (ts : List Token) (p : ℕ) → BeginsName m → Reaches b s (idle m ks ts i p)
    → Reaches b s (idle Ready ks (ts ++ token_at a.start a.stop (suc (length ts)) ∷ []) l p)
run_named (named i j k l before n after c) m ks ts p h r =
    let us = ts ++ token_at j k (suc (length ts)) ∷ [] in
    let named_at = skip_after after AfterName ks us p (run_name n m ks ts p h (skip before m ks ts p r)) in
    arrive_on _ (is_end colon c) named_at (ap (λ x. step x (idle AfterName ks us l p)) c)

-- past the led items of an open array
pub record ReadItems (b : List ℕ) (s : State) (ks : List ℕ) (ts : List Token) (j p : ℕ) : Type 0 where
  pub mode : Mode
  pub begins : BeginsValue mode
  pub reached : Reaches b s (idle mode ks ts j p)

-- past the led members of an open object
pub record ReadMembers (b : List ℕ) (s : State) (ks : List ℕ) (ts : List Token) (j p : ℕ) : Type 0 where
  pub mode : Mode
  pub begins : BeginsName mode
  pub reached : Reaches b s (idle mode ks ts j p)

mutual
  pub run_value : {b : List ℕ} {i j : ℕ} {t : Tree} → Value b i j t
      → (s : State) (m : Mode) (ks : List ℕ) (ts : List Token) (p : ℕ) → BeginsValue m → Reaches b s (idle m ks ts i p)
      → Arrives b s (idle After ks (ts ++ flatten (length ts) t) j (rise (length ks) p t))
  run_value (atom k i j w) s m ks ts p h r = run_atom w m ks ts p h r
  run_value (empty_array i j o w c) s m ks ts p h r =
      let t = token_at i 0 0 in let us = ts ++ t ∷ [] in let f = token_at i (suc j) (length us) in
      let q = max p (suc (length ks)) in
      let r1 = on (idle m ks ts i p) (idle FirstItem (length ts ∷ ks) us (suc i) q) r (open_array m ks ts i p h o) in
      let a = skip w FirstItem (length ts ∷ ks) us q r1 in
      let g = end_empty_array (length ts) ks us j q i c (slice_get-seam ts [] t) in
      let r2 = on (idle FirstItem (length ts ∷ ks) us j q) (idle After ks (slice_set us (length ts) f) (suc j) q) a g in
      rw (array_empty ts t i (suc j)) at (arrived After ks (slice_set us (length ts) f) (suc j) q r2)
  run_value (full_array i j k us u o l w c) s m ks ts p h r =
      let d = length ks in let x = suc (length ts) in let t = token_at i 0 0 in let q = max p (suc d) in
      let fs = flatten_items x us in let vs = (ts ++ t ∷ []) ++ fs in let ys = flatten (length vs) u in
      let f = token_at i (suc k) (length (vs ++ ys)) in let n = rise_items (suc d) q us in let z = rise (suc d) n u in
      let r1 = on (idle m ks ts i p) (idle FirstItem (length ts ∷ ks) (ts ++ t ∷ []) (suc i) q) r
      (open_array m ks ts i p h o) in
      let g = slice_get-seam ts [] t in
      let r2 = run_led l s FirstItem (length ts) ks (ts ++ t ∷ []) q i x (length-snoc ts t) g tt r1 in
      let a = run_padded w s r2.mode (length ts ∷ ks) vs n r2.begins r2.reached in
      let e1 = end_array (length ts) ks (vs ++ ys) k z i c
      (slice_get-append vs ys (length ts) t (slice_get-append (ts ++ t ∷ []) fs (length ts) t g)) in
      let r3 = arrive_on (idle After ks (slice_set (vs ++ ys) (length ts) f) (suc k) z) (is_end bracket c) a e1 in
      let v = array i (suc k) (add_item us u) in
      let e : slice_set (vs ++ ys) (length ts) f ≡ ts ++ flatten (length ts) v = cc
      (items_more (ts ++ t ∷ []) us u (length-snoc ts t), array_done ts t i (suc k) (add_item us u)) in
      rw (rise_items-add (suc d) q us u) (rw (← e) (arrived After ks (slice_set (vs ++ ys) (length ts) f) (suc k) z r3))
  run_value (empty_object i j o w c) s m ks ts p h r =
      let t = token_at i 0 1 in let us = ts ++ t ∷ [] in let f = token_at i (suc j) (length us) in
      let q = max p (suc (length ks)) in
      let r1 = on (idle m ks ts i p) (idle FirstName (length ts ∷ ks) us (suc i) q) r (open_object m ks ts i p h o) in
      let a = skip w FirstName (length ts ∷ ks) us q r1 in
      let g = end_empty_object (length ts) ks us j q i c (slice_get-seam ts [] t) in
      let r2 = on (idle FirstName (length ts ∷ ks) us j q) (idle After ks (slice_set us (length ts) f) (suc j) q) a g in
      rw (object_empty ts t i (suc j)) at (arrived After ks (slice_set us (length ts) f) (suc j) q r2)
  run_value (full_object i j k l us n u o led_ms nm w c) s m ks ts p h r =
      let d = length ks in let x = suc (length ts) in let t = token_at i 0 1 in let q = max p (suc d) in
      let fs = flatten_members x us in let vs = (ts ++ t ∷ []) ++ fs in
      let v = token_at n.start n.stop (suc (length vs)) in let xs = vs ++ v ∷ [] in let ys = flatten (length xs) u in
      let f = token_at i (suc l) (length (xs ++ ys)) in let y = rise_members (suc d) q us in let z = rise (suc d) y u in
      let r1 = on (idle m ks ts i p) (idle FirstName (length ts ∷ ks) (ts ++ t ∷ []) (suc i) q) r
      (open_object m ks ts i p h o) in
      let g = slice_get-seam ts [] t in
      let r2 = run_led_members led_ms s FirstName (length ts) ks (ts ++ t ∷ []) q i x (length-snoc ts t) g tt r1 in
      let r3 = run_named nm r2.mode (length ts ∷ ks) vs y r2.begins r2.reached in
      let a = run_padded w s Ready (length ts ∷ ks) xs y tt r3 in
      let g2 = slice_get-append xs ys (length ts) t
      (slice_get-append vs (v ∷ []) (length ts) t (slice_get-append (ts ++ t ∷ []) fs (length ts) t g)) in
      let e1 = end_object (length ts) ks (xs ++ ys) l z i c g2 in
      let r4 = arrive_on (idle After ks (slice_set (xs ++ ys) (length ts) f) (suc l) z) (is_end brace c) a e1 in
      let tree = object i (suc l) (add_member us n u) in
      let e : slice_set (xs ++ ys) (length ts) f ≡ ts ++ flatten (length ts) tree = cc
      (members_more (ts ++ t ∷ []) us n u (length-snoc ts t), object_done ts t i (suc l) (add_member us n u)) in
      rw (rise_members-add (suc d) q us n u)
      (rw (← e) (arrived After ks (slice_set (xs ++ ys) (length ts) f) (suc l) z r4))

  pub run_padded : {b : List ℕ} {i j : ℕ} {t : Tree} → Padded b i j t
      → (s : State) (m : Mode) (ks : List ℕ) (ts : List Token) (p : ℕ) → BeginsValue m → Reaches b s (idle m ks ts i p)
      → Arrives b s (idle After ks (ts ++ flatten (length ts) t) j (rise (length ks) p t))
  run_padded (padded i j k l t before v after) s m ks ts p h r =
      grind (arith, skip_after, rise, skip, run_value v s m ks ts p h (skip before m ks ts p r))

  pub run_led : {b : List ℕ} {i j : ℕ} {us : Items} → LedItems b i j us
      → (s : State) (m : Mode) (k : ℕ) (ks : List ℕ) (ts : List Token) (p a x : ℕ) → length ts ≡ x
      → slice_get ts k ≡ Some (token_at a 0 0) → BeginsValue m
      → Reaches b s (idle m (k ∷ ks) ts i p)
      → ReadItems b s (k ∷ ks) (ts ++ flatten_items x us) j (rise_items (suc (length ks)) p us)
  run_led (no_led i) s m k ks ts p a x lx g h r =
      record {
        mode = m;
        begins = h;
        reached = rw (append-nil ts) r;
      }
  run_led (led i j l us u before w c) s m k ks ts p a x lx g h r =
      let e = suc (length ks) in let fs = flatten_items x us in let ys = flatten (length (ts ++ fs)) u in
      let t = token_at a 0 0 in let n = rise_items e p us in let z = rise e n u in
      let r1 = run_led before s m k ks ts p a x lx g h r in
      let at_comma = run_padded w s r1.mode (k ∷ ks) (ts ++ fs) n r1.begins r1.reached in
      let q = more_items k ks ((ts ++ fs) ++ ys) l z a c
      (slice_get-append (ts ++ fs) ys k t (slice_get-append ts fs k t g)) in
      let r2 = arrive_on (idle Ready (k ∷ ks) ((ts ++ fs) ++ ys) (suc l) z) (is_end comma c) at_comma q in
      record {
        mode = Ready;
        begins = tt;
        reached = rw (rise_items-add e p us u) (rw (← items_more ts us u lx) r2);
      }

  pub run_led_members : {b : List ℕ} {i j : ℕ} {us : Members} → LedMembers b i j us
      → (s : State) (m : Mode) (k : ℕ) (ks : List ℕ) (ts : List Token) (p a x : ℕ) → length ts ≡ x
      → slice_get ts k ≡ Some (token_at a 0 1) → BeginsName m
      → Reaches b s (idle m (k ∷ ks) ts i p)
      → ReadMembers b s (k ∷ ks) (ts ++ flatten_members x us) j (rise_members (suc (length ks)) p us)
  run_led_members (no_led_members i) s m k ks ts p a x lx g h r =
      record {
        mode = m;
        begins = h;
        reached = rw (append-nil ts) r;
      }
  run_led_members (led_member i j l o us n u before nm w c) s m k ks ts p a x lx g h r =
      let e = suc (length ks) in let fs = flatten_members x us in
      let v = token_at n.start n.stop (suc (length (ts ++ fs))) in let xs = (ts ++ fs) ++ v ∷ [] in
      let ys = flatten (length xs) u in
      let t = token_at a 0 1 in let y = rise_members e p us in let z = rise e y u in
      let r1 = run_led_members before s m k ks ts p a x lx g h r in
      let r2 = run_named nm r1.mode (k ∷ ks) (ts ++ fs) y r1.begins r1.reached in
      let at_comma = run_padded w s Ready (k ∷ ks) xs y tt r2 in
      let q = more_members k ks (xs ++ ys) o z a c
      (slice_get-append xs ys k t (slice_get-append (ts ++ fs) (v ∷ []) k t (slice_get-append ts fs k t g))) in
      let r3 = arrive_on (idle NextName (k ∷ ks) (xs ++ ys) (suc o) z) (is_end comma c) at_comma q in
      record {
        mode = NextName;
        begins = tt;
        reached = rw (rise_members-add e p us n u) (rw (← members_more ts us n u lx) r3);
      }

pub run_json : (b : List ℕ) (t : Tree) → Json b t
    → Arrives b start (idle After [] (flatten 0 t) (length b) (rise 0 0 t))
run_json b t w = run_padded w start Ready [] [] 0 tt here
