-- Runs of the machine, and what each of its steps keeps.
use Rattle.cj_spans.proofs.Common.{◌≡◌, ℕ, zero, suc, ◌+◌, ◌-◌, ◌<◌, ◌≤◌, List, true, false, ◌||◌, nat_eq, Option, Some, None, refl, sym, ap, subst, arith, inl, inr, eq-or-lt_of_le, option_and_then, Kind, Token, Lex, NullDone, TruthDone, Zero, Whole, Fraction, Exponent, StringDone, Mode, FirstName, NextName, is_white_space, byte, White, is_digit, Phase, State, state, between, in_atom, read, end_atom, go_on, step, settle, lex_step, lex_kind, point_or_mark, Reaches, on, ◌*◌, [], ◌∷◌, ◌++◌, length, max, Bool, cond, ◌∙◌, slice_get, slice_set, option_map, Array, Object, Ready, FirstItem, After, AfterName, token_at, open_kind, read_in, begin_value, begin_name, after_value, after_token, after_in, close_empty, close_token, here, start, common_steps}
use Rattle.std.proofs.lemmas.Bool.{eqb-true, cond-true, cond-false, or_cases}
use Rattle.cj_spans.proofs.Spellings.{none_some, some_same}
use Rattle.std.proofs.Math.ListN.{length-set}

-- ---- runs of the machine: bytes that end a scalar, and white space

-- between scalars and names
abbrev pub idle : Mode → List ℕ → List Token → ℕ → ℕ → State
idle m ks ts i p = state (between m) ks ts i p

-- ---- the bytes that end a scalar or a name

pub data IsEnd : ℕ → Type 0 where
  space : IsEnd 32
  tab : IsEnd 9
  feed : IsEnd 10
  «return» : IsEnd 13
  comma : IsEnd 44
  colon : IsEnd 58
  bracket : IsEnd 93
  brace : IsEnd 125

digit_end : {c : ℕ} → IsEnd c → is_digit c ≡ false
digit_end space = refl
digit_end _ = refl

point_end : {c : ℕ} → IsEnd c → point_or_mark c ≡ None
point_end space = refl
point_end _ = refl

fraction_end : {c : ℕ} → IsEnd c → lex_step Fraction c ≡ None
fraction_end space = refl
fraction_end _ = refl

-- a scalar that may end does not go on with one of them
pub atom_ends : (x : Lex) {c : ℕ} (k : Kind) → lex_kind x ≡ Some k → IsEnd c → lex_step x c ≡ None
atom_ends NullDone k h e = refl
atom_ends TruthDone k h e = refl
atom_ends Zero k h e = point_end e
atom_ends Whole {c} k h e = grind (arith, cond-false, digit_end, point_end)
atom_ends Fraction k h e = fraction_end e
atom_ends Exponent {c} k h e = cond-false (is_digit c) _ _ (digit_end e)
atom_ends StringDone k h e = refl
atom_ends _ k h e = cc

end_at : (c : ℕ) {d : ℕ} → IsEnd d → nat_eq c d ≡ true → IsEnd c
end_at c {d} e h = subst IsEnd (sym (eqb-true c d h)) e

pub white_end : (c : ℕ) → is_white_space c ≡ true → IsEnd c
white_end c h =
    elim (or_cases (nat_eq c 32 || nat_eq c 9 || nat_eq c 10) (nat_eq c 13) h) [
      | inr q ↦ end_at c {d = 13} «return» q
      | inl p ↦ elim (or_cases (nat_eq c 32 || nat_eq c 9) (nat_eq c 10) p) [
        | inr q ↦ end_at c feed q
        | inl o ↦ elim (or_cases (nat_eq c 32) (nat_eq c 9) o) [ inl q ↦ end_at c space q | inr q ↦ end_at c tab q ]
      ]
    ]

-- ---- a state and the one that it settles to

settled_atom : (m : Mode) (a : ℕ) (x : Lex) (k : Option Kind) (ks : List ℕ) (ts : List Token) (i p : ℕ) (t : State)
    {c : ℕ} → lex_kind x ≡ k → IsEnd c → end_atom m a k (state (in_atom m a x) ks ts i p) ≡ Some t
    → go_on (λ y. in_atom m a y) (lex_step x c) (state (in_atom m a x) ks ts i p)
    (option_and_then (read m c) (end_atom m a k (state (in_atom m a x) ks ts i p))) ≡ step c t
settled_atom m a x None ks ts i p t kind e h = none_some t h
settled_atom m a x (Some k) ks ts i p t kind e h = grind (arith, in_atom, atom_ends, some_same)

settled_phase : (f : Phase) (ks : List ℕ) (ts : List Token) (i p : ℕ) (t : State) {c : ℕ} → IsEnd c
    → settle (state f ks ts i p) ≡ Some t → step c (state f ks ts i p) ≡ step c t
settled_phase (between m) ks ts i p t {c} e h = ap (step c) (some_same _ t h)
settled_phase (in_atom m a x) ks ts i p t e h = settled_atom m a x _ ks ts i p t refl e h

pub settled_step : (s t : State) {c : ℕ} → IsEnd c → settle s ≡ Some t → step c s ≡ step c t
settled_step s t e h = settled_phase s.phase s.stack s.tokens s.place s.deepest t e h

-- what stays where a state settles
pub record Settled (s t : State) : Type 0 where
  pub stack : s.stack ≡ t.stack
  pub place : s.place ≡ t.place
  pub deepest : s.deepest ≡ t.deepest

settled_by : {s t : State} → s ≡ t → Settled s t
settled_by e = grind arith

settled_end : (m : Mode) (a : ℕ) (k : Option Kind) (s t : State) → end_atom m a k s ≡ Some t → Settled s t
settled_end m a None s t h = none_some t h
settled_end m a (Some k) s t h = grind (arith, some_same)

settled_same : (f : Phase) (ks : List ℕ) (ts : List Token) (i p : ℕ) (t : State) → settle (state f ks ts i p) ≡ Some t
    → Settled (state f ks ts i p) t
settled_same (between m) ks ts i p t h = settled_by (some_same _ t h)
settled_same (in_atom m a x) ks ts i p t h = settled_end m a _ _ t h

pub settled : (s t : State) → settle s ≡ Some t → Settled s t
settled s t h = settled_same s.phase s.stack s.tokens s.place s.deepest t h

-- ---- runs

-- the machine comes from s to a state that is t, or t once its scalar has ended
pub record Arrives (b : List ℕ) (s t : State) : Type 0 where
  pub at : State
  pub reached : Reaches b s at
  pub settles : settle at ≡ Some t

pub arrive_on : {b : List ℕ} {s t : State} (u : State) → IsEnd (byte b t.place) → Arrives b s t
    → step (byte b t.place) t ≡ Some u
    → Reaches b s u
arrive_on {b} {t} u e a h = grind (arith, settled, settled_step, on, a.at.place, t.place, a.at, a.settles, a.reached)

pub arrived : {b : List ℕ} {s : State} (m : Mode) (ks : List ℕ) (ts : List Token) (i p : ℕ)
    → Reaches b s (idle m ks ts i p) → Arrives b s (idle m ks ts i p)
arrived m ks ts i p r = grind arith

skip_some : (n : ℕ) {b : List ℕ} {s : State} (m : Mode) (ks : List ℕ) (ts : List Token) (i p : ℕ)
    → ((k : ℕ) → i ≤ k → k < i + n → is_white_space (byte b k) ≡ true)
    → Reaches b s (idle m ks ts i p) → Reaches b s (idle m ks ts (i + n) p)
skip_some zero m ks ts i p each r = grind arith
skip_some (suc n) {b} m ks ts i p each r =
    let white = each i (omega arith) (omega arith) in
    let e : suc i + n ≡ i + suc n = omega arith in
    let q = on _ _ r (cond-true (is_white_space (byte b i)) _ _ white) in
    rw e at (skip_some n m ks ts (suc i) p (λ k l u. each k (omega arith) (omega arith)) q)

pub skip : {b : List ℕ} {i j : ℕ} → White b i j → {s : State} (m : Mode) (ks : List ℕ) (ts : List Token) (p : ℕ)
    → Reaches b s (idle m ks ts i p) → Reaches b s (idle m ks ts j p)
skip {i} {j} w m ks ts p r =
    let e : i + (j - i) ≡ j = omega arith in
    rw e at (skip_some (j - i) m ks ts i p (λ k l u. w.each k l (omega arith)) r)

white_rest : {b : List ℕ} {i j : ℕ} → White b i j → i < j → White b (suc i) j
white_rest w h = grind (arith, w.each)

-- the same where a scalar may just have ended
pub skip_after : {b : List ℕ} {i j : ℕ} → White b i j → {s : State} (m : Mode) (ks : List ℕ) (ts : List Token) (p : ℕ)
    → Arrives b s (idle m ks ts i p) → Arrives b s (idle m ks ts j p)
skip_after {b} {i} {j} w m ks ts p a =
    elim (eq-or-lt_of_le w.order) [
      | inl e ↦ rw e at a
      | inr l ↦
          let white = w.each i (omega arith) l in
          let r = arrive_on (idle m ks ts (suc i) p) (white_end (byte b i) white) a
          (cond-true (is_white_space (byte b i)) _ _ white) in
          arrived m ks ts j p (skip (white_rest w l) m ks ts p r)
    ]

pub same_mode : (m n : Mode) → between m ≡ between n → m ≡ n
same_mode m n h = cc

-- the modes in which a name may begin
abbrev pub BeginsName : Mode → Type 0
BeginsName FirstName = Unit {0}
BeginsName NextName = Unit {0}
BeginsName _ = ⊥

-- ---- what each step keeps: the place goes one on, the count of tokens stays within the bytes read and the open
-- containers

-- how many bytes stand for the tokens: after a value or a name one more than were read, in one those before it
abbrev reach_in : Mode → ℕ → ℕ
reach_in After i = suc i
reach_in AfterName i = suc i
reach_in _ i = i

abbrev pub reach : Phase → ℕ → ℕ
reach (between m) i = reach_in m i
reach (in_atom m a x) i = a

-- a scalar or a name began before the place, and a value's or a name's end comes after it
abbrev EndsAtom : Mode → Type 0
EndsAtom After = Unit {0}
EndsAtom AfterName = Unit {0}
EndsAtom _ = ⊥

abbrev pub BeganBefore : Phase → ℕ → Type 0
BeganBefore (between m) i = Unit {0}
BeganBefore (in_atom m a x) i = (a < i) × EndsAtom m

-- what holds of each state that the machine comes to
pub record IsLawful (s : State) : Type 0 where
  pub open_count : length s.stack ≤ s.place
  pub deep : length s.stack ≤ s.deepest
  pub token_count : 2 * length s.tokens ≤ reach s.phase s.place + length s.stack
  pub began : BeganBefore s.phase s.place

-- a step from the place i, where n containers were open and before at most p
pub record Goes (i p n : ℕ) (u : State) : Type 0 where
  pub place : u.place ≡ suc i
  pub deepest : u.deepest ≡ max p (length u.stack)
  pub climbs : length u.stack ≤ suc n
  pub lawful : IsLawful u

abbrev GoesIf : ℕ → ℕ → ℕ → Option State → Type 0
GoesIf i p n None = Unit {0}
GoesIf i p n (Some u) = Goes i p n u

goes_cond : (i p n : ℕ) (v : Bool) (x y : Option State) → GoesIf i p n x → GoesIf i p n y
    → GoesIf i p n (cond v x y)
goes_cond i p n true x y g h = g
goes_cond i p n false x y g h = h

reach_more : (m : Mode) (i : ℕ) → reach_in m i ≤ reach_in m (suc i)
reach_more Ready i = omega arith
reach_more _ i = omega arith

module _ (i p : ℕ) (ts : List Token) where
  -- what a step needs of the open containers, where n bytes stand for the tokens
  abbrev Fits : ℕ → List ℕ → Type 0
  Fits n ks = (length ks ≤ i) × (length ks ≤ p) × (2 * length ts ≤ n + length ks)

  -- into a scalar or a name
  goes_atom : (m : Mode) (x : Lex) (ks : List ℕ) → EndsAtom m → Fits i ks
      → Goes i p (length ks) (state (in_atom m i x) ks ts (suc i) p)
  goes_atom m x ks e h = grind (arith, h.1, h.2)

  goes_lex : (ks : List ℕ) (o : Option Lex) → Fits i ks
      → GoesIf i p (length ks) (option_map (λ x. state (in_atom After i x) ks ts (suc i) p) o)
  goes_lex ks None h = tt
  goes_lex ks (Some x) h = goes_atom After x ks tt h

  goes_begin : (c : ℕ) (m : Mode) (ks : List ℕ) → Fits i ks
      → GoesIf i p (length ks) (begin_value c (idle m ks ts i p))
  goes_begin c m ks h = grind (arith, common_steps, goes_cond, goes_lex)

  goes_name : (c : ℕ) (m : Mode) (ks : List ℕ) → Fits i ks → GoesIf i p (length ks) (begin_name c (idle m ks ts i p))
  goes_name c m ks h = grind (arith, goes_cond, goes_atom)

  -- out of a container
  goes_closed : (m : Mode) (k : ℕ) (ks : List ℕ) (t : Token) → Fits (suc i) (k ∷ ks)
      → Goes i p (suc (length ks)) (idle After ks (slice_set ts k t) (suc i) p)
  goes_closed m k ks t h = omega (arith, length-set ts k t)

  goes_in : (kd : Kind) (c k : ℕ) (t : Token) (m : Mode) (ks : List ℕ) → Fits (suc i) (k ∷ ks)
      → GoesIf i p (suc (length ks)) (after_in kd c k t (idle m (k ∷ ks) ts i p))
  goes_in Array c k t m ks h = grind (arith, goes_cond, goes_closed)
  goes_in Object c k t m ks h = grind (arith, goes_cond, goes_closed)
  goes_in _ c k t m ks h = tt

  goes_token : (c k : ℕ) (z : Option Token) (m : Mode) (ks : List ℕ) → Fits (suc i) (k ∷ ks)
      → GoesIf i p (suc (length ks)) (after_token c k z (idle m (k ∷ ks) ts i p))
  goes_token c k None m ks h = tt
  goes_token c k (Some t) m ks h = goes_in (open_kind t) c k t m ks h

  goes_after : (c : ℕ) (m : Mode) (ks : List ℕ) → Fits (suc i) ks
      → GoesIf i p (length ks) (after_value c (idle m ks ts i p))
  goes_after c m [] h = tt
  goes_after c m (k ∷ ks) h = goes_token c k (slice_get ts k) m ks h

  goes_close_token : (k : ℕ) (z : Option Token) (m : Mode) (ks : List ℕ) → Fits (suc i) (k ∷ ks)
      → GoesIf i p (suc (length ks)) (close_token k z (idle m (k ∷ ks) ts i p))
  goes_close_token k None m ks h = tt
  goes_close_token k (Some t) m ks h = goes_closed m k ks _ h

  goes_close : (m : Mode) (ks : List ℕ) → Fits i ks → GoesIf i p (length ks) (close_empty (idle m ks ts i p))
  goes_close m [] h = tt
  goes_close m (k ∷ ks) h = grind (arith, goes_close_token)

  goes_read_in : (m : Mode) (c : ℕ) (ks : List ℕ) → Fits (reach_in m i) ks
      → GoesIf i p (length ks) (read_in m c (idle m ks ts i p))
  goes_read_in Ready c ks h = goes_begin c Ready ks h
  goes_read_in FirstItem c ks h = grind (arith, goes_cond, goes_close, goes_begin)
  goes_read_in After c ks h = goes_after c After ks h
  goes_read_in FirstName c ks h = grind (arith, goes_cond, goes_close, goes_name)
  goes_read_in NextName c ks h = goes_name c NextName ks h
  goes_read_in AfterName c ks h = grind (arith, goes_cond)

  goes_read : (m : Mode) (c : ℕ) (ks : List ℕ) → Fits (reach_in m i) ks
      → GoesIf i p (length ks) (read m c (idle m ks ts i p))
  goes_read m c ks h = grind (arith, goes_cond, reach_more, goes_read_in)

-- one token more, where a scalar or a name ends
ends_count : (m : Mode) (a i d : ℕ) (ks : List ℕ) (ts : List Token) → EndsAtom m → a < i → 2 * length ts ≤ a + length ks
    → 2 * length (ts ++ token_at a i d ∷ []) ≤ reach_in m i + length ks
ends_count After a i d ks ts e l n = grind (arith, common_steps)
ends_count AfterName a i d ks ts e l n = grind (arith, common_steps)
ends_count _ a i d ks ts e l n = absurd e

-- a byte in a scalar or a name, or behind it
module _ (m : Mode) (a : ℕ) (x : Lex) (c : ℕ) (ks : List ℕ) (ts : List Token) (i p : ℕ)
    (h : IsLawful (state (in_atom m a x) ks ts i p)) where
  goes_ended : (r : Option Kind)
      → GoesIf i p (length ks) (option_and_then (read m c) (end_atom m a r (state (in_atom m a x) ks ts i p)))
  goes_ended None = tt
  goes_ended (Some k) = grind (arith, goes_read, ends_count)

  goes_on : (z : Option Lex)
      → GoesIf i p (length ks) (go_on (λ y. in_atom m a y) z (state (in_atom m a x) ks ts i p)
      (option_and_then (read m c) (end_atom m a (lex_kind x) (state (in_atom m a x) ks ts i p))))
  goes_on None = goes_ended (lex_kind x)
  goes_on (Some y) = grind arith

goes_phase : (f : Phase) (c : ℕ) (ks : List ℕ) (ts : List Token) (i p : ℕ) → IsLawful (state f ks ts i p)
    → GoesIf i p (length ks) (step c (state f ks ts i p))
goes_phase (between m) c ks ts i p h = goes_read i p ts m c ks (h.open_count, h.deep, h.token_count)
goes_phase (in_atom m a x) c ks ts i p h = goes_on m a x c ks ts i p h (lex_step x c)

pub goes : {s : State} (u : State) (c : ℕ) → IsLawful s → step c s ≡ Some u → Goes s.place s.deepest (length s.stack) u
goes {s} u c l h =
    subst (GoesIf s.place s.deepest (length s.stack)) h (goes_phase s.phase c s.stack s.tokens s.place s.deepest l)

pub lawful_reaches : {b : List ℕ} {s : State} → Reaches b start s → IsLawful s
lawful_reaches here = omega arith
lawful_reaches {b} (on t u r h) = (goes u (byte b t.place) (lawful_reaches r) h).lawful

-- where a scalar or a name ends, the law still holds
settle_lawful : (m : Mode) (a : ℕ) (x : Lex) (r : Option Kind) (ks : List ℕ) (ts : List Token) (i p : ℕ) (t : State)
    → IsLawful (state (in_atom m a x) ks ts i p) → end_atom m a r (state (in_atom m a x) ks ts i p) ≡ Some t
    → IsLawful t
settle_lawful m a x None ks ts i p t l h = none_some t h
settle_lawful m a x (Some k) ks ts i p t l h =
    grind (arith, some_same, ends_count, l.open_count, l.deep, l.began.1, l.began.0, l.token_count)

lawful_phase : (f : Phase) (ks : List ℕ) (ts : List Token) (i p : ℕ) (t : State) → IsLawful (state f ks ts i p)
    → settle (state f ks ts i p) ≡ Some t → IsLawful t
lawful_phase (between m) ks ts i p t l h = subst IsLawful (some_same _ t h) l
lawful_phase (in_atom m a x) ks ts i p t l h = grind (arith, settle_lawful)

pub lawful_settles : {s : State} (t : State) → IsLawful s → settle s ≡ Some t → IsLawful t
lawful_settles {s} t l h = lawful_phase s.phase s.stack s.tokens s.place s.deepest t l h

-- ---- runs are determined

suc_same : (m n : ℕ) → suc m ≡ suc n → m ≡ n
suc_same m n h = omega arith

pub next_place : {b : List ℕ} {t : State} (v : State) → Reaches b start t → step (byte b t.place) t ≡ Some v
    → v.place ≡ suc t.place
next_place {b} {t} v r h = (goes v (byte b t.place) (lawful_reaches r) h).place

pub same_state : {b : List ℕ} {s u : State} → Reaches b start s → Reaches b start u → s.place ≡ u.place → s ≡ u
same_state here here e = refl
same_state here (on t v r h) e = absurd (omega (arith, next_place v r h))
same_state (on t v r h) here e = absurd (omega (arith, next_place v r h))
same_state {b} (on t v r h) (on t2 v2 r2 h2) e =
    let p = next_place v r h in
    let p2 = next_place v2 r2 h2 in
    let d : t ≡ t2 = same_state r r2 (suc_same _ _ (sym p ∙ e ∙ p2)) in
    some_same v v2 (sym h ∙ ap (λ w. step (byte b w.place) w) d ∙ h2)

-- the state at an earlier place
pub record Before (b : List ℕ) (s : State) (k : ℕ) : Type 0 where
  pub at : State
  pub reached : Reaches b start at
  pub place : at.place ≡ k
  pub below : at.deepest ≤ s.deepest

pub state_before : {b : List ℕ} {s : State} (k : ℕ) → Reaches b start s → k ≤ s.place → Before b s k
state_before k here h = record { at = start; reached = here; place = omega arith; below = omega arith }
state_before {b} k (on t v r e) h =
    let g = goes v (byte b t.place) (lawful_reaches r) e in
    elim (eq-or-lt_of_le h) [
      | inr l ↦ let z = state_before k r (omega arith) in
          record { at = z.at; reached = z.reached; place = z.place; below = omega arith }
      | inl q ↦ record { at = v; reached = on t v r e; place = sym q; below = omega arith }
    ]

-- a run after a run
pub reaches_both : {b : List ℕ} {s t u : State} → Reaches b s t → Reaches b t u → Reaches b s u
reaches_both r here = r
reaches_both r (on v w q h) = on v w (reaches_both r q) h
