-- What the machine has read, by its state, and by what comes in front.
use Rattle.cj_spans.proofs.Common.{◌≡◌, ℕ, suc, List, [], ◌∷◌, ◌++◌, length, max, Bool, true, false, cond, nat_eq, Option, Some, None, refl, ap, subst, arith, ◌∙◌, slice_set, eq-or-lt_of_le, option_and_then, option_map, append-nil, Kind, Text, Token, Lex, InString, Mode, Ready, FirstItem, After, FirstName, NextName, AfterName, Atom, Tree, scalar, array, object, Items, no_items, Members, no_members, add_item, add_member, is_white_space, byte, atom_at, White, IsAtom, Value, atom, empty_array, full_array, empty_object, full_object, Padded, padded, LedItems, no_led, led, LedMembers, no_led_members, led_member, Named, named, flatten, flatten_items, flatten_members, token_at, State, state, in_atom, step, read, begin_value, after_value, end_atom, go_on, lex_start, lex_step, lex_kind, Reaches, here, on, start, ◌+◌, JsonPrefix, white, begun, whole, in_object, in_array as front_array, MemberPrefix, before_name, in_name as front_name, after_name as front_after_name, in_value, BeginsValue}
use Rattle.std.proofs.lemmas.Bool.{eqb-true}
use Rattle.cj_spans.proofs.Lists.{length-snoc, items_more, members_more, array_done, object_done, array_empty, object_empty, slice_get-append, slice_get-seam, run_padded, run_led, run_led_members, run_named, open_array, open_object}
use Rattle.cj_spans.proofs.Facts.{idle, Arrives, settled, skip, BeginsName, skip_after}
use Rattle.cj_spans.proofs.Places.{InAtom, atom_first, atom_more, atom_sound, name_kind, atom_begun, name_begun, run_begun, run_begun_name, run_name, begun_reading, quote_first}
use Rattle.cj_spans.proofs.Spellings.{kind_of_lex}

-- ---- what the machine has read, by its state

-- ---- white space

pub no_white : (b : List ℕ) (i : ℕ) → White b i i
no_white b i = grind arith

last_white : (b : List ℕ) {j k : ℕ} → is_white_space (byte b j) ≡ true → k ≡ j → is_white_space (byte b k) ≡ true
last_white b h e = rw e h

pub white_more : {b : List ℕ} {i j : ℕ} → White b i j → is_white_space (byte b j) ≡ true → White b i (suc j)
white_more {b} {j} w h = grind (arith, eq-or-lt_of_le, last_white, w.each)

-- ---- the invariant

-- the tokens ts, those of a container that began at e, and those of its parts so far
abbrev pub opened_array : List Token → ℕ → Items → List Token
opened_array ts e us = (ts ++ token_at e 0 0 ∷ []) ++ flatten_items (suc (length ts)) us

abbrev pub opened_object : List Token → ℕ → Members → List Token
opened_object ts e us = (ts ++ token_at e 0 1 ∷ []) ++ flatten_members (suc (length ts)) us

-- and that of a name from i to j
abbrev pub with_name : List Token → ℕ → ℕ → List Token
with_name vs i j = vs ++ token_at i j (suc (length vs)) ∷ []

-- all before the place k has been read, and a value may stand there: the open containers, and the tokens
pub data Context (b : List ℕ) : ℕ → List ℕ → List Token → Type 0 where
  root : (k : ℕ) → White b 0 k → Context b k [] []
  in_array : (e j k : ℕ) (ks : List ℕ) (ts : List Token) (us : Items) → Context b e ks ts → byte b e ≡ 91
      → LedItems b (suc e) j us → White b j k
      → Context b k (length ts ∷ ks) (opened_array ts e us)
  in_member : (e j k l : ℕ) (ks : List ℕ) (ts : List Token) (us : Members) (n : Atom) → Context b e ks ts
      → byte b e ≡ 123 → LedMembers b (suc e) j us → Named b j k n → White b k l
      → Context b l (length ts ∷ ks) (with_name (opened_object ts e us) n.start n.stop)

-- what has been read at a state
pub data Inv (b : List ℕ) : State → Type 0 where
  ready : (k p : ℕ) (ks : List ℕ) (ts : List Token) → Context b k ks ts → Inv b (idle Ready ks ts k p)
  first_item : (e k p : ℕ) (ks : List ℕ) (ts : List Token) → Context b e ks ts → byte b e ≡ 91 → White b (suc e) k
      → Inv b (idle FirstItem (length ts ∷ ks) (ts ++ token_at e 0 0 ∷ []) k p)
  after_tree : (e j k p : ℕ) (ks : List ℕ) (ts : List Token) (t : Tree) → Context b e ks ts → Value b e j t
      → White b j k → Inv b (idle After ks (ts ++ flatten (length ts) t) k p)
  first_name : (e k p : ℕ) (ks : List ℕ) (ts : List Token) → Context b e ks ts → byte b e ≡ 123 → White b (suc e) k
      → Inv b (idle FirstName (length ts ∷ ks) (ts ++ token_at e 0 1 ∷ []) k p)
  next_name : (e j k p : ℕ) (ks : List ℕ) (ts : List Token) (us : Members) → Context b e ks ts → byte b e ≡ 123
      → LedMembers b (suc e) j us → White b j k
      → Inv b (idle NextName (length ts ∷ ks) (opened_object ts e us) k p)
  after_name : (e j l m k p : ℕ) (ks : List ℕ) (ts : List Token) (us : Members) → Context b e ks ts → byte b e ≡ 123
      → LedMembers b (suc e) j us → White b j l → IsAtom b Text l m → White b m k
      → Inv b (idle AfterName (length ts ∷ ks) (with_name (opened_object ts e us) l m) k p)
  in_scalar : (e k p : ℕ) (ks : List ℕ) (ts : List Token) (x : Lex) → Context b e ks ts → InAtom b e k x
      → Inv b (state (in_atom After e x) ks ts k p)
  in_name : (e j l k p : ℕ) (ks : List ℕ) (ts : List Token) (us : Members) (x : Lex) → Context b e ks ts
      → byte b e ≡ 123 → LedMembers b (suc e) j us → White b j l → byte b l ≡ 34 → InAtom b l k x
      → Inv b (state (in_atom AfterName l x) (length ts ∷ ks) (opened_object ts e us) k p)

context_white : {b : List ℕ} {k : ℕ} {ks : List ℕ} {ts : List Token} → Context b k ks ts
    → is_white_space (byte b k) ≡ true → Context b (suc k) ks ts
context_white (root k w) h = root (suc k) (white_more w h)
context_white (in_array e j k ks ts us c o l w) h = in_array e j (suc k) ks ts us c o l (white_more w h)
context_white (in_member e j k l ks ts us n c o m d w) h = in_member e j k (suc l) ks ts us n c o m d (white_more w h)

-- the same of a step, if it succeeds
abbrev InvIf : List ℕ → Option State → Type 0
InvIf b None = Unit {0}
InvIf b (Some u) = Inv b u

inv_cond : (b : List ℕ) (v : Bool) (x y : Option State) → (v ≡ true → InvIf b x) → InvIf b y → InvIf b (cond v x y)
inv_cond b true x y f g = f refl
inv_cond b false x y f g = g

inv_byte : (b : List ℕ) (k d : ℕ) (x y : Option State) → (byte b k ≡ d → InvIf b x) → InvIf b y
    → InvIf b (cond (nat_eq (byte b k) d) x y)
inv_byte b k d x y f g = grind (arith, inv_cond, eqb-true)

module _ {b : List ℕ} where
  lex_sound : (k p : ℕ) (ks : List ℕ) (ts : List Token) → Context b k ks ts → (o : Option Lex)
      → lex_start (byte b k) ≡ o → InvIf b (option_map (λ x. state (in_atom After k x) ks ts (suc k) p) o)
  lex_sound k p ks ts c None e = tt
  lex_sound k p ks ts c (Some x) e = in_scalar k (suc k) p ks ts x c (atom_first b k x e)

  begin_sound : (k p : ℕ) (ks : List ℕ) (ts : List Token) (m : Mode) → Context b k ks ts
      → InvIf b (begin_value (byte b k) (idle m ks ts k p))
  begin_sound k p ks ts m c =
      let q = max p (suc (length ks)) in
      inv_byte b k 91 _ _ (λ z. first_item k (suc k) q ks ts c z (no_white b _))
      (inv_byte b k 123 _ _ (λ z. first_name k (suc k) q ks ts c z (no_white b _))
      (lex_sound k p ks ts c _ refl))

  after_byte : {a j k : ℕ} (p : ℕ) {ks : List ℕ} {ts : List Token} (t : Tree) → Context b a ks ts → Value b a j t
      → White b j k → InvIf b (after_value (byte b k) (idle After ks (ts ++ flatten (length ts) t) k p))
  after_byte p t (root e w0) v w = tt
  after_byte {j} {k} p t (in_array e0 j0 e ks ts us c0 o l w0) v w =
      let k0 = length ts in let o0 = token_at e0 0 0 in let fs = flatten_items (suc k0) us in
      let vs = (ts ++ o0 ∷ []) ++ fs in let ys = flatten (length vs) t in let all = add_item us t in
      let more : vs ++ ys ≡ opened_array ts e0 all = items_more _ us t (length-snoc ts o0) in
      let g = slice_get-append vs ys k0 o0 (slice_get-append _ fs k0 o0 (slice_get-seam ts [] o0)) in
      let done : slice_set (vs ++ ys) k0 (token_at e0 (suc k) (length (vs ++ ys))) ≡ ts
      ++ flatten k0 (array e0 (suc k) all) = cc (more, array_done ts o0 e0 _ all) in
      let q : Padded b j0 k t = padded j0 e j k t w0 v w in
      rw g (inv_byte b k 44 _ _ (λ z. rw more (ready (suc k) p (k0 ∷ ks) _
      (in_array e0 (suc k) (suc k) ks ts all c0 o (led (suc e0) j0 k us t l q z) (no_white b _))))
      (inv_byte b k 93 _ _ (λ z. rw done (after_tree e0 (suc k) (suc k) p ks ts (array e0 (suc k) all) c0
      (full_array e0 j0 k us t o l q z) (no_white b _))) tt))
  after_byte {j} {k} p t (in_member e0 j0 m e ks ts us n c0 o l nm w0) v w =
      let k0 = length ts in let o0 = token_at e0 0 1 in let fs = flatten_members (suc k0) us in
      let vs = (ts ++ o0 ∷ []) ++ fs in let wd = token_at n.start n.stop (suc (length vs)) in let xs = vs ++ wd ∷ [] in
      let ys = flatten (length xs) t in let all = add_member us n t in
      let more : xs ++ ys ≡ opened_object ts e0 all = members_more _ us n t (length-snoc ts o0) in
      let g = slice_get-append xs ys k0 o0
      (slice_get-append vs _ k0 o0 (slice_get-append _ fs k0 o0 (slice_get-seam ts [] o0))) in
      let done : slice_set (xs ++ ys) k0 (token_at e0 (suc k) (length (xs ++ ys))) ≡ ts
      ++ flatten k0 (object e0 (suc k) all) =
      ap (λ zs. slice_set zs k0 (token_at e0 (suc k) (length zs))) more ∙ object_done ts o0 e0 _ all in
      let q : Padded b m k t = padded m e j k t w0 v w in
      rw g (inv_byte b k 44 _ _ (λ z. rw more (next_name e0 (suc k) (suc k) p ks ts all c0 o
      (led_member (suc e0) j0 m k us n t l nm q z) (no_white b _)))
      (inv_byte b k 125 _ _ (λ z. rw done (after_tree e0 (suc k) (suc k) p ks ts (object e0 (suc k) all) c0
      (full_object e0 j0 m k us n t o l nm q z) (no_white b _))) tt))

  after_sound : {e j k : ℕ} (p : ℕ) {ks : List ℕ} {ts : List Token} (t : Tree) → Context b e ks ts → Value b e j t
      → White b j k → InvIf b (read After (byte b k) (idle After ks (ts ++ flatten (length ts) t) k p))
  after_sound {e} {j} {k} p {ks} {ts} t c v w =
      inv_cond b _ _ _ (λ z. after_tree e j (suc k) p ks ts t c v (white_more w z))
      (after_byte p t c v w)

  colon_sound : {e j l m k : ℕ} (p : ℕ) {ks : List ℕ} {ts : List Token} (us : Members) → Context b e ks ts
      → byte b e ≡ 123 → LedMembers b (suc e) j us → White b j l → IsAtom b Text l m → White b m k
      → InvIf b (read AfterName (byte b k)
      (idle AfterName (length ts ∷ ks) (with_name (opened_object ts e us) l m) k p))
  colon_sound {e} {j} {l} {m} {k} p {ks} {ts} us c o ld w0 wd w =
      inv_cond b _ _ _
      (λ z. after_name e j l m (suc k) p ks ts us c o ld w0 wd (white_more w z))
      (inv_byte b k 58 _ _ (λ z. ready (suc k) p _ _ (in_member e j (suc k) (suc k) ks ts us (atom_at b l m) c o
      ld (named j l m k w0 wd w z) (no_white b _))) tt)

  -- a scalar's next byte
  ended : {e k : ℕ} (p : ℕ) {ks : List ℕ} {ts : List Token} {x : Lex} → Context b e ks ts → InAtom b e k x
      → (r : Option Kind) → lex_kind x ≡ r
      → InvIf b (option_and_then (read After (byte b k)) (end_atom After e r (state (in_atom After e x) ks ts k p)))
  ended p c w None kind = tt
  ended {e} {k} p c w (Some kd) kind =
      after_sound p (scalar kd (atom_at b e k)) c (atom kd e k (atom_sound w kd kind)) (no_white b k)

  scalar_sound : {e k : ℕ} (p : ℕ) {ks : List ℕ} {ts : List Token} {x : Lex} → Context b e ks ts → InAtom b e k x
      → (o : Option Lex) → lex_step x (byte b k) ≡ o
      → InvIf b (go_on (λ y. in_atom After e y) o (state (in_atom After e x) ks ts k p)
      (option_and_then (read After (byte b k)) (end_atom After e (lex_kind x) (state (in_atom After e x) ks ts k p))))
  scalar_sound {e} {k} p {ks} {ts} c w (Some y) next = in_scalar e (suc k) p ks ts y c (atom_more y w next)
  scalar_sound p {x} c w None next = ended p c w _ refl

  -- a name's next byte
  module _ {e j l k : ℕ} (p : ℕ) {ks : List ℕ} {ts : List Token} (us : Members) {x : Lex} (c : Context b e ks ts)
      (o : byte b e ≡ 123) (ld : LedMembers b (suc e) j us) (w0 : White b j l) (q : byte b l ≡ 34)
      (w : InAtom b l k x) where
    ended_name : (r : Option Kind) → lex_kind x ≡ r → InvIf b (option_and_then (read AfterName (byte b k))
        (end_atom AfterName l r (state (in_atom AfterName l x) (length ts ∷ ks) (opened_object ts e us) k p)))
    ended_name None kind = tt
    ended_name (Some kd) kind =
        colon_sound p us c o ld w0 (rw (name_kind w q kd kind) at (atom_sound w kd kind)) (no_white b k)

    name_sound : (z : Option Lex) → lex_step x (byte b k) ≡ z → InvIf b (go_on (λ y. in_atom AfterName l y) z
        (state (in_atom AfterName l x) (length ts ∷ ks) (opened_object ts e us) k p)
        (option_and_then (read AfterName (byte b k)) (end_atom AfterName l (lex_kind x)
        (state (in_atom AfterName l x) (length ts ∷ ks) (opened_object ts e us) k p))))
    name_sound (Some y) next = in_name e j l (suc k) p ks ts us y c o ld w0 q (atom_more y w next)
    name_sound None next = ended_name _ refl

  -- one step keeps the invariant
  inv_step : {s : State} → Inv b s → InvIf b (step (byte b s.place) s)
  inv_step (ready k p ks ts c) =
      inv_cond b (is_white_space (byte b k)) _ _ (λ z. ready (suc k) p ks ts (context_white c z))
      (begin_sound k p ks ts Ready c)
  inv_step (first_item e k p ks ts c o w) =
      let o0 = token_at e 0 0 in
      inv_cond b (is_white_space (byte b k)) _ _ (λ z. first_item e (suc k) p ks ts c o (white_more w z))
      (inv_byte b k 93 _ _ (λ z. rw (slice_get-seam ts [] o0, array_empty ts o0 e (suc k))
      (after_tree e (suc k) (suc k) p ks ts (array e (suc k) no_items) c (empty_array e k o w z) (no_white b (suc k))))
      (begin_sound k p (length ts ∷ ks) (ts ++ o0 ∷ []) FirstItem (subst (Context b k (length ts ∷ ks))
      (append-nil (ts ++ o0 ∷ [])) (in_array e (suc e) k ks ts no_items c o (no_led (suc e)) w))))
  inv_step (after_tree e j k p ks ts t c v w) = after_sound p t c v w
  inv_step (first_name e k p ks ts c o w) =
      let o0 = token_at e 0 1 in
      inv_cond b (is_white_space (byte b k)) _ _ (λ z. first_name e (suc k) p ks ts c o (white_more w z))
      (inv_byte b k 125 _ _ (λ z. rw (slice_get-seam ts [] o0, object_empty ts o0 e (suc k))
      (after_tree e (suc k) (suc k) p ks ts (object e (suc k) no_members) c (empty_object e k o w z)
      (no_white b (suc k))))
      (inv_byte b k 34 _ _ (λ z. rw (← append-nil (ts ++ o0 ∷ [])) (in_name e (suc e) k (suc k) p ks ts
      no_members InString c o (no_led_members (suc e)) w z (atom_first b k InString (ap lex_start z)))) tt))
  inv_step (next_name e j k p ks ts us c o l w) =
      inv_cond b (is_white_space (byte b k)) _ _ (λ z. next_name e j (suc k) p ks ts us c o l (white_more w z))
      (inv_byte b k 34 _ _ (λ z. in_name e j k (suc k) p ks ts us InString c o l w z
      (atom_first b k InString (ap lex_start z))) tt)
  inv_step (after_name e j l m k p ks ts us c o ld w0 wd w) = colon_sound p us c o ld w0 wd w
  inv_step (in_scalar e k p ks ts x c w) = search (arith, scalar_sound)
  inv_step (in_name e j l k p ks ts us x c o ld w0 q w) = search (arith, name_sound)

  -- each state that the machine comes to has it
  pub inv_reaches : {s : State} → Reaches b start s → Inv b s
  inv_reaches here = ready 0 0 [] [] (root 0 (no_white b 0))
  inv_reaches (on t u r h) = rw h at (inv_step (inv_reaches r))

-- ---- the machine is at a state after the first i bytes exactly where they are a prefix

-- ---- from fronts to states

-- a state at the place j with n containers open
pub record Live (b : List ℕ) (s : State) (j n : ℕ) : Type 0 where
  pub at : State
  pub reached : Reaches b s at
  pub place : at.place ≡ j
  pub open_count : length at.stack ≡ n

live : (b : List ℕ) (s : State) {t : State} → Arrives b s t → Live b s t.place (length t.stack)
live b s {t} a = grind (arith, settled, a.at, a.settles, a.reached)

lives : {b : List ℕ} {s t : State} → Reaches b s t → Live b s t.place (length t.stack)
lives {t} r = record { at = t; reached = r; place = refl; open_count = refl }

live_n : {b : List ℕ} {s : State} {j : ℕ} {m n : ℕ} → m ≡ n → Live b s j m → Live b s j n
live_n e h = rw e at h

-- inside an object, past its first members
record InObject (b : List ℕ) (s : State) (ks : List ℕ) (k : ℕ) : Type 0 where
  mode : Mode
  tokens : List Token
  deepest : ℕ
  begins : BeginsName mode
  reached : Reaches b s (idle mode ks tokens k deepest)

object_at : {b : List ℕ} {i j : ℕ} (k : ℕ) (us : Members) → White b i j → byte b j ≡ 123 → LedMembers b (suc j) k us
    → {s : State} (m : Mode) (ks : List ℕ) (ts : List Token) (p : ℕ) → BeginsValue m → Reaches b s (idle m ks ts i p)
    → InObject b s (length ts ∷ ks) k
object_at {j} k us w o ld {s} m ks ts p h r =
    let t = token_at j 0 1 in let q = max p (suc (length ks)) in
    let r1 = on _ _ (skip w m ks ts p r)
    (open_object m ks ts j p h o) in
    let r2 = run_led_members ld s FirstName _ ks _ q j _ (length-snoc ts t)
    (slice_get-seam ts [] t) tt r1 in
    record { mode = r2.mode; tokens = _; deepest = _; begins = r2.begins; reached = r2.reached }

mutual
  pub front_runs : {b : List ℕ} {i j n : ℕ} → JsonPrefix b i j n
      → (s : State) (m : Mode) (ks : List ℕ) (ts : List Token) (p : ℕ) → BeginsValue m
      → Reaches b s (idle m ks ts i p) → Live b s j (n + length ks)
  front_runs (white i j w) s m ks ts p h r = live_n (omega arith) (lives (skip w m ks ts p r))
  front_runs (begun i j l k w g) s m ks ts p h r =
      let q = begun_reading g in
      live_n (omega arith)
      (lives (run_begun q.inside m ks ts p h (skip w m ks ts p r)))
  front_runs {b} (whole i j t w) s m ks ts p h r = live_n (omega arith) (live b s (run_padded w s m ks ts p h r))
  front_runs (front_array i j k l n us w o ld q) s m ks ts p h r =
      let t = token_at j 0 0 in let y = max p (suc (length ks)) in
      let r1 = on _ _ (skip w m ks ts p r)
      (open_array m ks ts j p h o) in
      let r2 = run_led ld s FirstItem _ ks _ y j _ (length-snoc ts t)
      (slice_get-seam ts [] t) tt r1 in
      live_n {m = _} (omega arith) (front_runs q s r2.mode _ _ _ r2.begins r2.reached)
  front_runs {b} (in_object i j k l n us w o ld f) s m ks ts p h r =
      let q = object_at {b = b} k us w o ld m ks ts p h r in
      live_n (omega arith) (member_runs f s q.mode _ q.tokens q.deepest q.begins q.reached)

  member_runs : {b : List ℕ} {i j n : ℕ} → MemberPrefix b i j n
      → (s : State) (m : Mode) (ks : List ℕ) (ts : List Token) (p : ℕ) → BeginsName m
      → Reaches b s (idle m ks ts i p) → Live b s j (n + length ks)
  member_runs (before_name i j w) s m ks ts p h r = live_n (omega arith) (lives (skip w m ks ts p r))
  member_runs {b} (front_name i j l w g) s m ks ts p h r =
      let z = begun_reading g in
      live_n (omega arith) (lives
      (run_begun_name z.inside (quote_first b j l g.rest g.order g.within g.spelled) m ks ts p h
      (skip w m ks ts p r)))
  member_runs {b} (front_after_name i j k l w g v) s m ks ts p h r =
      let z = run_name g m ks ts p h (skip w m ks ts p r) in
      live_n {m = _} (omega arith) (live b s {t = idle AfterName ks _ l p} (skip_after v AfterName ks _ p z))
  member_runs (in_value i j k n a named_at f) s m ks ts p h r =
      front_runs f s Ready ks _ p tt (run_named named_at m ks ts p h r)

-- ---- from states to fronts

white_join : {b : List ℕ} {i j k : ℕ} → White b i j → White b j k → White b i k
white_join {j} v w = grind (arith, v.each, w.each)

front_white : {b : List ℕ} {i j k n : ℕ} → White b i j → JsonPrefix b j k n → JsonPrefix b i k n
front_white {i = i} v (white j k w) = white i k (white_join v w)
front_white {i = i} v (begun j k l kd w g) = begun i k l kd (white_join v w) g
front_white {i = i} v (whole j k t (padded j2 a c k2 t2 w p x)) = whole i k t (padded i a c k t (white_join v w) p x)
front_white {i = i} v (front_array j k l m n us w o ld q) = front_array i k l m n us (white_join v w) o ld q
front_white {i = i} v (in_object j k l m n us w o ld f) = in_object i k l m n us (white_join v w) o ld f

front_n : {b : List ℕ} {i j : ℕ} (m n : ℕ) → m ≡ n → JsonPrefix b i j m → JsonPrefix b i j n
front_n m n e f = rw e at f

context_front : {b : List ℕ} {e : ℕ} {ks : List ℕ} {ts : List Token} → Context b e ks ts → (j n : ℕ)
    → JsonPrefix b e j n → JsonPrefix b 0 j (n + length ks)
context_front (root e w) j n f = front_n _ _ (omega arith) (front_white w f)
context_front {b} (in_array e0 j0 e ks ts us c o l w) j n f =
    front_n _ _ (omega arith)
    (context_front c j _ (front_array e0 e0 j0 j n us (no_white b e0) o l (front_white w f)))
context_front {b} (in_member e0 j0 k e ks ts us nm c o l d w) j n f =
    front_n _ _ (omega arith)
    (context_front c j _
    (in_object e0 e0 j0 j n us (no_white b e0) o l (in_value j0 k j n nm d (front_white w f))))

-- what was read is a prefix, with as many containers open as the stack has
pub inv_front : {b : List ℕ} {s : State} → Inv b s → JsonPrefix b 0 s.place (length s.stack)
inv_front {b} (ready k p ks ts c) = front_n _ _ (omega arith) (context_front c k 0 (white k k (no_white b k)))
inv_front {b} (first_item e k p ks ts c o w) =
    front_n _ _ (omega arith)
    (context_front c k 1 (front_array e e (suc e) k 0 no_items (no_white b e) o (no_led (suc e)) (white (suc e) k w)))
inv_front {b} (after_tree e j k p ks ts t c v w) =
    front_n _ _ (omega arith) (context_front c k 0 (whole e k t (padded e e j k t (no_white b e) v w)))
inv_front {b} (first_name e k p ks ts c o w) =
    front_n _ _ (omega arith)
    (context_front c k 1 (in_object e e (suc e) k 0 no_members (no_white b e) o (no_led_members (suc e))
    (before_name (suc e) k w)))
inv_front {b} (next_name e j k p ks ts us c o l w) =
    front_n _ _ (omega arith) (context_front c k 1 (in_object e e j k 0 us (no_white b e) o l (before_name j k w)))
inv_front {b} (after_name e j l m k p ks ts us c o ld w0 wd w) =
    front_n _ _ (omega arith)
    (context_front c k 1 (in_object e e j k 0 us (no_white b e) o ld (front_after_name j l m k w0 wd w)))
inv_front {b} (in_scalar e k p ks ts x c w) =
    front_n _ _ (omega arith) (context_front c k 0 (begun e e k (kind_of_lex x) (no_white b e) (atom_begun w)))
inv_front {b} (in_name e j l k p ks ts us x c o ld w0 q w) =
    front_n _ _ (omega arith)
    (context_front c k 1 (in_object e e j k 0 us (no_white b e) o ld (front_name j l k w0 (name_begun w q))))
