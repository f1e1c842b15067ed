-- Scalars and names in a line: how far they are read, and the machine over them.
use Rattle.cj_spans.proofs.Common.{◌⊎◌, inl, inr, ◌≡◌, refl, arith, Mode, Ready, FirstItem, After, FirstName, NextName, AfterName, ℕ, zero, suc, ◌+◌, ◌-◌, ◌<◌, ◌≤◌, List, [], ◌∷◌, ◌++◌, length, true, Option, Some, None, sym, ap, ◌∙◌, cases_lt, option_and_then, Kind, Token, Lex, InString, Move, byte, token_at, State, state, between, in_atom, read, end_atom, step, settle, lex_step, lex_kind, Continues, still, further, Halts, Reaches, here, on, ComesTo, SticksFlat, phase_after, is_plain, common_steps, AfterN, AfterNu, AfterNul, NullDone, AfterT, AfterTr, AfterTru, AfterF, AfterFa, AfterFal, AfterFals, TruthDone, Whole, Zero, Minus, Point, Fraction, Escape, Hex4, Hex3, Hex2, Hex1, StringDone, is_escape, is_hex, is_digit, GoesTo, ReadsTo}
use Rattle.cj_spans.proofs.Spellings.{none_some}
use Rattle.cj_spans.proofs.ReadSpellings.{plain_goes, escape_goes, hex_goes}

-- ---- one byte, in the code and in the machine

-- the mode that is left where a value may come, or what follows one
pub left_after : {m : Mode} → (m ≡ Ready) ⊎ ((m ≡ FirstItem) ⊎ (m ≡ After)) → (m ≡ Ready → ⊥) → (m ≡ FirstItem → ⊥)
    → m ≡ After
left_after (inl e) p q = absurd (p e)
left_after (inr (inl e)) p q = absurd (q e)
left_after (inr (inr e)) p q = e

-- the mode that is left where a name or a colon may come
pub left_colon : (m : Mode) → (m ≡ Ready → ⊥) × (m ≡ FirstItem → ⊥) × (m ≡ After → ⊥) → (m ≡ FirstName → ⊥)
    → (m ≡ NextName → ⊥) → m ≡ AfterName
left_colon AfterName n p q = refl
left_colon _ n p q = absurd (grind arith)

-- ---- scalars and names in a line: what has been read of one, and the machine over it

-- ---- the code's loop

pub read_first : (b : List ℕ) (i : ℕ) (x : Lex) → Continues b (suc i) x (i + 1) x
read_first b i x = grind (arith, still)

pub read_more : {b : List ℕ} {i : ℕ} (k : ℕ) {x : Lex} (y z : Lex) {o : Option Lex} → Continues b i x k y → o ≡ Some z
    → o ≡ lex_step y (byte b k) → Continues b i x (k + 1) z
read_more k y z r is h = grind (arith, common_steps, further)

-- a byte that leaves the reading as it is
pub read_same : {b : List ℕ} {i k : ℕ} {x y : Lex} → Continues b i x k y → lex_step y (byte b k) ≡ Some y
    → Continues b i x (k + 1) y
read_same {k} {y} r h = grind (arith, common_steps, further)

pub read_plain : {b : List ℕ} {i k : ℕ} {x : Lex} → Continues b i x k InString → is_plain (byte b k) ≡ true
    → Continues b i x (k + 1) InString
read_plain {b} {k} r h = read_same r (plain_goes (byte b k) h)

-- n bytes that leave the reading as it is
pub read_run : (n : ℕ) {b : List ℕ} {i k : ℕ} {x y : Lex}
    → ((j : ℕ) → k ≤ j → j < k + n → lex_step y (byte b j) ≡ Some y) → Continues b i x k y → Continues b i x (k + n) y
read_run zero {k} each r = grind arith
read_run (suc n) {k} each r =
    let e : k + 1 + n ≡ k + suc n = omega arith in
    rw e at (read_run n (λ j a c. each j (omega arith) (omega arith))
    (read_same r (each k (omega arith) (omega arith))))

-- the same of the bytes up to a place
pub read_to : {b : List ℕ} {i k : ℕ} (n : ℕ) {x y : Lex} → k ≤ n
    → ((j : ℕ) → k ≤ j → j < n → lex_step y (byte b j) ≡ Some y)
    → Continues b i x k y → Continues b i x n y
read_to {k} n l each r =
    let e : k + (n - k) ≡ n = omega arith in
    rw e at (read_run (n - k) (λ j a c. each j a (omega arith)) r)

-- bytes of a string that stand for themselves
pub plain_run : (n : ℕ) {b : List ℕ} {i k : ℕ} {x : Lex} → ((j : ℕ) → k ≤ j → j < k + n → is_plain (byte b j) ≡ true)
    → Continues b i x k InString → Continues b i x (k + n) InString
plain_run n {b} each r = grind (arith, read_run, plain_goes)

pub plain_to : {b : List ℕ} {i k : ℕ} (n : ℕ) {x : Lex} → k ≤ n → ((j : ℕ) → k ≤ j → j < n → is_plain (byte b j) ≡ true)
    → Continues b i x k InString → Continues b i x n InString
plain_to {b} n l each r = grind (arith, read_to, plain_goes)

-- ---- the machine

pub atom_goes : (c : ℕ) (ks : List ℕ) (ts : List Token) (m : Mode) (a k p : ℕ) (x z : Lex) → lex_step x c ≡ Some z
    → step c (state (in_atom m a x) ks ts k p) ≡ Some (state (in_atom m a z) ks ts (suc k) p)
atom_goes c ks ts m a k p x z h = grind (arith, in_atom)

pub continues_reaches : {b : List ℕ} {i : ℕ} {x : Lex} {k : ℕ} {y : Lex} → Continues b i x k y
    → {s : State} (m : Mode) (a : ℕ) (ks : List ℕ) (ts : List Token) (p : ℕ)
    → Reaches b s (state (in_atom m a x) ks ts i p) → Reaches b s (state (in_atom m a y) ks ts k p)
continues_reaches still m a ks ts p r = r
continues_reaches {b} (further k y z c h) m a ks ts p r =
    grind (arith, on, atom_goes, continues_reaches c m a ks ts p r)

halted : (b ks : List ℕ) (ts : List Token) (m : Mode) (a k p : ℕ) (x : Lex) {r : Option Kind}
    → lex_step x (byte b k) ≡ None → lex_kind x ≡ r
    → step (byte b k) (state (in_atom m a x) ks ts k p) ≡ option_and_then (read m (byte b k))
    (end_atom m a r (state (in_atom m a x) ks ts k p))
halted b ks ts m a k p x none kind = grind (arith, in_atom)

-- a scalar that may end where it halts has ended there
pub ends_ok : {b : List ℕ} (i : ℕ) {k : ℕ} (p : ℕ) {x y : Lex} (kd : Kind) (m : Mode) (ks : List ℕ) (ts : List Token)
    {us : List Token}
    → Continues b (suc i) x k y → Halts b k y → lex_kind y ≡ Some kd → us ≡ ts ++ token_at i k (length ts + 1) ∷ []
    → ComesTo b (state (in_atom m i x) ks ts (suc i) p) (state (between m) ks us k p)
ends_ok {b} i {k} p {y} kd m ks ts {us} c h kind is =
    let last = state (in_atom m i y) ks ts k p in
    let next : suc (length ts) ≡ length ts + 1 = omega arith in
    let e : ts ++ token_at i k (suc (length ts)) ∷ [] ≡ us = cc (next, is) in
    record {
      last = last;
      reached = continues_reaches c m i ks ts p here;
      settles = ap (λ r. end_atom m i r last) kind ∙ ap (λ zs. Some (state (between m) ks zs k p)) e;
      same = λ l. elim h [
        | inl g ↦ absurd (omega arith)
        | inr none ↦ halted b ks ts m i k p y none kind
            ∙ ap (λ zs. read m (byte b k) (state (between m) ks zs k p)) e
      ];
    }

-- one that may not end there is a fault there
pub ends_err : {b : List ℕ} (i : ℕ) {k : ℕ} (p : ℕ) {x y : Lex} (m : Mode) (ks : List ℕ) (ts : List Token)
    → Continues b (suc i) x k y → Halts b k y → k ≤ length b → lex_kind y ≡ None
    → SticksFlat b (state (in_atom m i x) ks ts (suc i) p) k
ends_err {b} i {k} p {y} m ks ts c h l kind =
    let last = state (in_atom m i y) ks ts k p in
    record {
      sticks = record {
        last = last;
        reached = continues_reaches c m i ks ts p here;
        at = refl;
        within = l;
        stuck = stuck_at (cases_lt k (length b));
      };
      flat = refl;
    }
  where
    stuck_at : (k < length b) ⊎ (length b ≤ k)
        → ((k < length b) × (step (byte b k) (state (in_atom m i y) ks ts k p) ≡ None))
        ⊎ ((k ≡ length b) × ((us : List Token) (q : ℕ)
        → settle (state (in_atom m i y) ks ts k p) ≡ Some (state (between After) [] us (length b) q) → ⊥))
    stuck_at (inl g) =
        elim h [ inl n ↦ absurd (omega arith) | inr none ↦ inl (g, halted b ks ts m i k p y none kind) ]
    stuck_at (inr g) =
        inr (
          omega arith,
          λ us q e.
              none_some _ (sym (ap (λ r. end_atom m i r (state (in_atom m i y) ks ts k p)) kind) ∙ e),
        )

-- a move that begins no scalar settles at once
pub settles_at : (b : List ℕ) (m n : Mode) (i j p : ℕ) {v w : Move} (ks : List ℕ) (ts : List Token) → v ≡ w
    → phase_after m i w ≡ between n → j ≡ i + 1
    → ComesTo b (state (phase_after m i v) ks ts (suc i) p) (state (between n) ks ts j p)
settles_at b m n i j p {v} ks ts e f g =
    let h : suc i ≡ j = omega arith in
    let q : phase_after m i v ≡ between n = cc (e, f) in
    let s = state (between n) ks ts (suc i) p in
    let base : ComesTo b s s = record { last = s; reached = here; settles = refl; same = λ l. refl } in
    rw q (rw (← h) base)

-- ---- how far scalars and names are read, piece by piece

through : {b : List ℕ} {i : ℕ} {x : Lex} {j : ℕ} {y : Lex} {k : ℕ} {z : Lex} → Continues b i x j y → Continues b j y k z
    → Continues b i x k z
through r still = r
through r (further k y z c h) = further k y z (through r c) h

-- two pieces are one
pub goes_far : {b : List ℕ} {i : ℕ} {x : Lex} {j : ℕ} {y : Lex} {k : ℕ} {z : Lex} → GoesTo b i x j y → GoesTo b j y k z
    → GoesTo b i x k z
goes_far g h = grind (arith, through, g.goes, h.goes, h.within)

pub reads_far : {b : List ℕ} {i : ℕ} {x : Lex} {j : ℕ} {y : Lex} {k : ℕ} {z : Lex} → GoesTo b i x j y
    → ReadsTo b j y k z → ReadsTo b i x k z
reads_far g h = grind (arith, goes_far, h.run, h.halts)

-- the same reading under another name
pub reads_as : {b : List ℕ} {i : ℕ} {x y : Lex} {k : ℕ} {z : Lex} → x ≡ y → ReadsTo b i x k z → ReadsTo b i y k z
reads_as e h = rw e at h

-- one byte
pub goes_one : (b : List ℕ) (i j : ℕ) (x y : Lex) → i < length b → j ≡ i + 1 → lex_step x (byte b i) ≡ Some y
    → GoesTo b i x j y
goes_one b i j x y l e h =
    let f : suc i ≡ j = omega arith in
    record {
      goes = rw f at (further i x y still h);
      order = omega arith;
      within = omega arith;
    }

-- one byte that is known
pub goes_by : (b : List ℕ) (i j : ℕ) (x y : Lex) {c : ℕ} → i < length b → j ≡ i + 1 → byte b i ≡ c
    → lex_step x c ≡ Some y → GoesTo b i x j y
goes_by b i j x y l e is h = grind (arith, goes_one)

-- bytes that leave the reading as it is
pub goes_same : {b : List ℕ} {i k : ℕ} {y : Lex} → ((n : ℕ) (x : Lex) → Continues b n x i y → Continues b n x k y)
    → i ≤ k → k ≤ length b → GoesTo b i y k y
goes_same {i} {y} same o w = grind (arith, still)

-- the quote that ends a string
pub reads_quote : (b : List ℕ) (i : ℕ) → (i < length b) × (byte b i ≡ 34) → ReadsTo b i InString (i + 1) StringDone
reads_quote b i q = grind (arith, goes_by, q.0, q.1)

pub goes_hex : (b : List ℕ) (i : ℕ) → i + 4 ≤ length b → is_hex (byte b i) ≡ true → is_hex (byte b (i + 1)) ≡ true
    → is_hex (byte b (i + 2)) ≡ true → is_hex (byte b (i + 3)) ≡ true → GoesTo b i Hex4 (i + 4) InString
goes_hex b i l p q r s =
    goes_far (goes_one b i (i + 1) Hex4 Hex3 (omega arith) refl (hex_goes (byte b i) Hex3 p))
    (goes_far (goes_one b (i + 1) (i + 2) Hex3 Hex2 (omega arith) (omega arith) (hex_goes (byte b (i + 1)) Hex2 q))
    (goes_far (goes_one b (i + 2) (i + 3) Hex2 Hex1 (omega arith) (omega arith) (hex_goes (byte b (i + 2)) Hex1 r))
    (goes_one b (i + 3) (i + 4) Hex1 InString (omega arith) (omega arith) (hex_goes (byte b (i + 3)) InString s))))

pub goes_escape : (b : List ℕ) (i : ℕ) → i + 2 ≤ length b → byte b i ≡ 92 → is_escape (byte b (i + 1)) ≡ true
    → GoesTo b i InString (i + 2) InString
goes_escape b i l p q =
    goes_far (goes_by b i (i + 1) InString Escape (omega arith) refl p refl)
    (goes_one b (i + 1) (i + 2) Escape InString (omega arith) (omega arith) (escape_goes (byte b (i + 1)) q))

pub goes_unicode : {b : List ℕ} (i : ℕ) → i + 2 ≤ length b → byte b i ≡ 92 → byte b (i + 1) ≡ 117
    → GoesTo b (i + 2) Hex4 (i + 2 + 4) InString → GoesTo b i InString (i + 6) InString
goes_unicode {b} i l p q g =
    let e : i + 2 + 4 ≡ i + 6 = omega arith in
    goes_far (goes_by b i (i + 1) InString Escape (omega arith) refl p refl)
    (goes_far (goes_by b (i + 1) (i + 2) Escape Hex4 (omega arith) (omega arith) q refl)
    (rw e at g))

pub goes_fraction : (b : List ℕ) (i : ℕ) (x : Lex) → i + 2 ≤ length b → byte b i ≡ 46 → is_digit (byte b (i + 1)) ≡ true
    → lex_step x 46 ≡ Some Point → GoesTo b i x (i + 2) Fraction
goes_fraction b i x l p q h =
    goes_far (goes_by b i (i + 1) x Point (omega arith) refl p h)
    (goes_one b (i + 1) (i + 2) Point Fraction (omega arith) (omega arith) (digit_goes (byte b (i + 1)) q))
  where
    digit_goes : (c : ℕ) → is_digit c ≡ true → lex_step Point c ≡ Some Fraction
    digit_goes c h = grind (arith)

pub goes_minus_zero : (b : List ℕ) (i : ℕ) → i < length b → byte b i ≡ 48 → GoesTo b i Minus (i + 1) Zero
goes_minus_zero b i l p = goes_by b i (i + 1) Minus Zero l refl p refl

pub goes_minus : (b : List ℕ) (i : ℕ) → i < length b → (byte b i ≡ 48 → ⊥) → is_digit (byte b i) ≡ true
    → GoesTo b i Minus (i + 1) Whole
goes_minus b i l n p = grind (arith, goes_one)

-- three letters and what is read behind each
letters : (b : List ℕ) (i : ℕ) (w x y z : Lex) {c d e : ℕ} → i + 3 ≤ length b → (byte b i ≡ c) × (byte b (i + 1) ≡ d)
    × (byte b (i + 2) ≡ e) → lex_step w c ≡ Some x → lex_step x d ≡ Some y → lex_step y e ≡ Some z
    → GoesTo b i w (i + 3) z
letters b i w x y z l is p q r =
    goes_far (goes_by b i (i + 1) w x (omega arith) refl is.0 p)
    (goes_far (goes_by b (i + 1) (i + 2) x y (omega arith) (omega arith) is.1 q)
    (goes_by b (i + 2) (i + 3) y z (omega arith) (omega arith) is.2 r))

pub reads_null : (b : List ℕ) (i : ℕ) → i + 3 ≤ length b → (byte b i ≡ 117) × (byte b (i + 1) ≡ 108)
    × (byte b (i + 2) ≡ 108) → ReadsTo b i AfterN (i + 3) NullDone
reads_null b i l is =
    record { run = letters b i AfterN AfterNu AfterNul NullDone l is refl refl refl; halts = inr refl }

pub reads_true : (b : List ℕ) (i : ℕ) → i + 3 ≤ length b → (byte b i ≡ 114) × (byte b (i + 1) ≡ 117)
    × (byte b (i + 2) ≡ 101) → ReadsTo b i AfterT (i + 3) TruthDone
reads_true b i l is =
    record { run = letters b i AfterT AfterTr AfterTru TruthDone l is refl refl refl; halts = inr refl }

pub reads_false : (b : List ℕ) (i : ℕ) → i + 3 ≤ length b → (byte b i ≡ 97) × (byte b (i + 1) ≡ 108)
    × (byte b (i + 2) ≡ 115) → (i + 3 < length b) × (byte b (i + 3) ≡ 101) → ReadsTo b i AfterF (i + 4) TruthDone
reads_false b i l is e =
    record {
      run = goes_far (letters b i AfterF AfterFa AfterFal AfterFals l is refl refl refl)
          (goes_by b (i + 3) (i + 4) AfterFals TruthDone e.0 (omega arith) e.1 refl);
      halts = inr refl;
    }
