-- Whole numbers in arrays: the machine over them, their marks, and brackets.
use Rattle.cj_spans.proofs.Common.{◌≡◌, ℕ, suc, ◌+◌, ◌<◌, ◌≤◌, List, [], ◌∷◌, ◌++◌, length, true, Option, Some, None, refl, sym, ap, subst, arith, ◌∙◌, ◌⊎◌, inl, inr, IfSome, nat_tests, Number, Token, Lex, Minus, Whole, Zero, Mode, After, byte, token_at, State, state, in_atom, lex_start, lex_step, Continues, still, further, ComesTo, BeginsValue, IsNumberUpTo, EndsItem, is_digit, ◌-◌, ◌^◌, ◌/◌, w64, cases_lt, div-div-eq-div-mul, div-lt_iff_lt-mul, AreMarked, AreMarkedTo, Ok, Err, BoundedList, Becomes, IsWithin, LineFault, Kind, Array, Object, Ready, FirstItem, FirstName, Move, To, between, start, read, with_opened, open_kind, open_link, phase_after, deepest_after, Answers, ReadsByte, InArray, IsInnermost, FitsToken, Grown, Kept, Standing, Stands, GoesOn}
use Rattle.cj_spans.proofs.Facts.{idle, atom_ends, IsEnd, comma, bracket}
use Rattle.cj_spans.proofs.Atoms.{ends_ok, read_to, settles_at}
use Rattle.cj_spans.proofs.Places.{step_atom}
use Rattle.cj_spans.proofs.Signs.{step_on, comma_read, innermost_same, innermost_opened}
use Rattle.cj_spans.proofs.Standing.{settles_both, standing_small, standing_room, standing_step, standing_fault, standing_law, stepped_on, standing_with, grown_same, grown_more}
use Rattle.std.specs.Int.{bit_at, trailing_zeros}
use Rattle.std.proofs.lemmas.Nat.{pow-add, pow_pos}
use Rattle.std.proofs.lemmas.Nat.Bits.{bit_at-trailing_zeros, bit_at_above}
use Rattle.std.specs.Prelude.{IsTrue}
use Rattle.cj_spans.proofs.Spellings.{some_same}

-- ---- whole numbers in an array: the machine over them

-- ---- one number

ended : (c : ℕ) → EndsItem c → IsEnd c
ended c (inl e) = subst IsEnd (sym e) comma
ended c (inr e) = subst IsEnd (sym e) bracket

-- the machine has read a number
pub number_read : {b : List ℕ} (s : State) (m : Mode) (ks : List ℕ) (ts : List Token) {us : List Token} {i k : ℕ}
    (p : ℕ)
    → IsNumberUpTo b i k → EndsItem (byte b k) → BeginsValue m → us ≡ ts ++ token_at i k (length ts + 1) ∷ []
    → ComesTo b s (idle m ks ts i p) → ComesTo b s (idle After ks us k p)
number_read {b} s m ks ts {i} {k} p n w v q h =
    let r = step_on (state (in_atom After i n.first) ks ts (suc i) p) h (omega arith)
    (step_atom (byte b i) n.first m ks ts i p v n.begins) in
    settles_both r (ends_ok i p Number After ks ts n.goes
    (inr (atom_ends n.last Number n.done (ended (byte b k) w))) n.done q)

-- ---- what the code's tests say

-- a digit goes on with a number
pub whole_stays : (c : ℕ) → is_digit c ≡ true → lex_step Whole c ≡ Some Whole
whole_stays c h = grind (arith)

first_zero : {c : ℕ} → c ≡ 48 → lex_start c ≡ Some Zero
first_zero e = cc

first_whole : (c : ℕ) → 49 ≤ c → c ≤ 57 → lex_start c ≡ Some Whole
first_whole c l h = grind (arith, nat_tests)

-- digits alone, of which the first is `0` only if it stands alone
pub number_is : {b : List ℕ} (i : ℕ) {k : ℕ} → (48 ≤ byte b i) × (byte b i ≤ 57) → (byte b i ≡ 48 → k ≡ i + 1)
    → ((j : ℕ) (x : Lex) → Continues b j x (i + 1) Whole → Continues b j x k Whole) → i + 1 ≤ k → k < length b
    → (48 ≤ byte b i) × IsNumberUpTo b i k
number_is {b} i {k} d z same l h = (d.0, choose (split (byte b i)))
  where
    split : (c : ℕ) → (c ≡ 48) ⊎ (c ≡ 48 → ⊥)
    split c = grind arith

    choose : (byte b i ≡ 48) ⊎ (byte b i ≡ 48 → ⊥) → IsNumberUpTo b i k
    choose (inl q) =
        let f : suc i ≡ k = let g = z q in omega arith in
        let low = d.0 in
        record {
          first = Zero;
          last = Zero;
          sign = (omega arith, d.1);
          begins = first_zero q;
          goes = rw (← f) still;
          done = refl;
          order = omega arith;
          within = h;
        }
    choose (inr q) =
        let f : suc i ≡ i + 1 = omega arith in
        let high = d.1 in
        record {
          first = Whole;
          last = Whole;
          sign = (omega arith, high);
          begins = first_whole (byte b i) (omega arith) high;
          goes = same (suc i) Whole (rw (← f) still);
          done = refl;
          order = omega arith;
          within = h;
        }

-- a digit goes on behind a minus as it begins a number
behind_minus : (c : ℕ) → 48 ≤ c → c ≤ 57 → lex_step Minus c ≡ lex_start c
behind_minus c l h = grind (arith, nat_tests)

-- one byte more in front
from_front : {b : List ℕ} {i : ℕ} {x y : Lex} {k : ℕ} {z : Lex} → lex_step x (byte b i) ≡ Some y
    → Continues b (suc i) y k z → Continues b i x k z
from_front {i} {x} {y} h still = further i x y still h
from_front h (further k u v c e) = further k u v (from_front h c) e

-- the same behind a minus
minus_is : {b : List ℕ} (i : ℕ) {k : ℕ} → byte b i ≡ 45 → (48 ≤ byte b (i + 1)) × IsNumberUpTo b (i + 1) k
    → IsNumberUpTo b i k
minus_is {b} i e d =
    let n = d.1 in
    let f : suc i ≡ i + 1 = omega arith in
    let h : lex_step Minus (byte b (i + 1)) ≡ Some n.first = behind_minus (byte b (i + 1)) d.0 n.sign.1 ∙ n.begins in
    record {
      first = Minus;
      last = n.last;
      sign = (omega arith, omega arith);
      begins = ap lex_start e;
      goes = rw f (from_front h n.goes);
      done = n.done;
      order = omega arith;
      within = n.within;
    }

pub behind_minus_stop : (b : List ℕ) (i : ℕ) (r : Option ℕ) → byte b i ≡ 45
    → IfSome r (λ k. (48 ≤ byte b (i + 1)) × IsNumberUpTo b (i + 1) k) → IfSome r (λ k. IsNumberUpTo b i k)
behind_minus_stop b i None e h = tt
behind_minus_stop b i (Some k) e h = minus_is i e h

-- ---- the marks of a block of bytes, which tell the bytes that are no digits

-- a bit of a number that is shifted
bit_at_shifted : (m s k : ℕ) → bit_at (m / 2 ^ s) k ≡ bit_at m (s + k)
bit_at_shifted m s k = cc (div-div-eq-div-mul m (2 ^ s) (2 ^ k), pow-add 2 s k)

shifted_few : (m s n : ℕ) → s ≤ n → m < 2 ^ n → m / 2 ^ s < 2 ^ (n - s)
shifted_few m s n l h =
    let e : n - s + s ≡ n = omega arith in
    (div-lt_iff_lt-mul (pow_pos s)).1 (rw (ap (λ k. 2 ^ k) (sym e) ∙ pow-add 2 (n - s) s) at h)

-- the marks from a later place on
pub later : {b : List ℕ} {i j m : ℕ} (s : ℕ) → AreMarkedTo b i j m → i + s ≤ j → AreMarkedTo b (i + s) j (m / 2 ^ s)
later {b} {i} {j} {m} s a l =
    let near = a.near in
    record {
      order = l;
      near = omega arith;
      within = a.within;
      few = subst (λ n. m / 2 ^ s < 2 ^ n) (omega arith) (shifted_few m s (j - i) (omega arith) a.few);
      digits = λ k h e.
          let q : i + (s + k) ≡ i + s + k = omega arith in
          subst (λ n. is_digit (byte b n) ≡ true) q (a.digits (s + k) (omega arith) (sym (bit_at_shifted m s k) ∙ e));
    }

-- what the lowest mark tells: a place in the block, before which all bytes are digits
pub record EndsDigits (b : List ℕ) (i m t : ℕ) : Type 0 where
  pub few : t < 32
  pub within : i + t < length b
  pub digits : (k : ℕ) → i ≤ k → k < i + t → is_digit (byte b k) ≡ true
  pub rest : AreMarked b (i + (t + 1)) (m / 2 ^ (t + 1))

pub first_mark : {b : List ℕ} {i m : ℕ} → AreMarked b i m → 0 < m → m < 2 ^ 64 → EndsDigits b i m (trailing_zeros w64 m)
first_mark {i} {m} a l h =
    let t = trailing_zeros w64 m in
    let z = bit_at-trailing_zeros w64 m l h in
    let n = a.marked.near in let room : i + t < a.stop = elim (cases_lt (i + t) a.stop) [
      | inl g ↦ g
      | inr g ↦ absurd (one_is_none (bit_at m t) z.1 (bit_at_above m (a.stop - i) t a.marked.few (omega arith)))
    ] in
    record {
      few = omega arith;
      within = omega arith;
      digits = λ k low high.
          let e : i + (k - i) ≡ k = omega arith in
          rw e at (a.marked.digits (k - i) (omega arith) (z.2 (k - i) (omega arith)));
      rest = record { stop = a.stop; marked = later (t + 1) a.marked (omega arith) };
    }
  where
    one_is_none : (x : ℕ) → x ≡ 1 → x ≡ 0 → ⊥
    one_is_none x e f = omega arith

digit_range : (c : ℕ) → is_digit c ≡ true → (48 ≤ c) × (c ≤ 57)
digit_range c h = grind arith

-- the digits before the lowest mark are a number, where a 0 stands alone
pub block_number : {b : List ℕ} {i m t : ℕ} → EndsDigits b i m t → (t ≡ 0 → ⊥) → (byte b i ≡ 48 → t ≡ 1)
    → IsNumberUpTo b i (i + t)
block_number {b} {i} {t} e n z = grind (arith, number_is, digit_range, read_to, whole_stays, e.within, e.digits)

-- ---- arrays of whole numbers, and brackets: where the pass stands behind each of their parts

-- what goes on from where a pass stands leaves one that stands
pub stands_on : {b : List ℕ} {ts ts1 : BoundedList Token} {ks ks1 : BoundedList ℕ} {m n : Mode} {i j : ℕ}
    → Stands b ts ks m i → ((t0 : BoundedList Token) (s0 : BoundedList ℕ) → Standing b t0 s0 ts ks m i
    → Standing b t0 s0 ts1 ks1 n j) → Stands b ts1 ks1 n j
stands_on s f = grind (arith, s.standing, s.room)

-- what the calls need
pub stands_small : {b : List ℕ} {ts : BoundedList Token} {ks : BoundedList ℕ} {m : Mode} {i : ℕ} → Stands b ts ks m i
    → i < length b → FitsToken i ts
stands_small s l = standing_small s.standing s.room.short l

pub stands_room : {b : List ℕ} {ts : BoundedList Token} {ks : BoundedList ℕ} {m : Mode} {i : ℕ} → Stands b ts ks m i
    → i < length b → BeginsValue m → length ts.elements < ts.limit
stands_room s l v = standing_room s.standing s.room.room l v

pub stands_within : {b : List ℕ} {ts : BoundedList Token} {ks : BoundedList ℕ} {m : Mode} {i : ℕ} → Stands b ts ks m i
    → IsWithin ts × IsWithin ks
stands_within s = (s.standing.kept.within, s.standing.stack_within)

pub stands_reserved : {b : List ℕ} {ts : BoundedList Token} {ks : BoundedList ℕ} {m : Mode} {i : ℕ} → Stands b ts ks m i
    → IsTrue ts.reserved × IsTrue ks.reserved
stands_reserved s = (s.standing.kept.room s.room.reserved.0, s.standing.stack_room s.room.reserved.1)

module _ {b : List ℕ} {t0 : BoundedList Token} {s0 : BoundedList ℕ} where
  -- behind a byte after which the mode n comes
  standing_moved : {ts ts1 : BoundedList Token} {ks ks1 : BoundedList ℕ} {m : Mode} (n : Mode) {i : ℕ} (v : Move)
      → Standing b t0 s0 ts ks m i → i < length b → Grown ts ts1 → Kept ks ks1 → phase_after m i v ≡ between n
      → ((p : ℕ) → read m (byte b i) (idle m ks.elements ts.elements i p)
      ≡ Some (state (phase_after m i v) ks1.elements ts1.elements (suc i)
      (deepest_after v p (length ks1.elements)))) → Standing b t0 s0 ts1 ks1 n (i + 1)
  standing_moved {ts1} {ks1} {m} n {i} v s l g k e h =
      let r = standing_step s v l g k h in
      stepped_on r (record { mode = n; place = i + 1 }) (grown_same ts1 r.kept.within)
      (λ p. (
        settles_at b m n i (i + 1) p {v = v} {w = v} ks1.elements ts1.elements refl e refl,
        omega arith,
        omega arith,
      ))

  -- behind the bracket that closes an array
  pub standing_closed : {ts ts1 : BoundedList Token} {ks ks1 : BoundedList ℕ} {m : Mode} {i : ℕ}
      → Standing b t0 s0 ts ks m i → i < length b → byte b i ≡ 93 → Grown ts ts1 → Kept ks ks1
      → ((p : ℕ) → read m 93 (idle m ks.elements ts.elements i p)
      ≡ Some (idle After ks1.elements ts1.elements (suc i) p)) → Standing b t0 s0 ts1 ks1 After (i + 1)
  standing_closed {ts} {ks} {m} {i} s l e g k h =
      standing_moved After (To After) s l g k refl
      (λ p. ap (λ c. read m c (idle m ks.elements ts.elements i p)) e ∙ h p)

  -- behind the comma of an array
  pub standing_comma : {ts : BoundedList Token} {ks : BoundedList ℕ} (i : ℕ) → Standing b t0 s0 ts ks After i
      → i < length b → byte b i ≡ 44 → InArray ks.elements ts.elements → Standing b t0 s0 ts ks Ready (i + 1)
  standing_comma {ts} i s l c a =
      standing_with s Ready (i + 1) (grown_same ts s.kept.within) (omega arith)
      (λ p. comma_read b start Ready i p (λ _ _ _. refl) a l c)

  -- behind a number
  pub standing_number : {ts : BoundedList Token} (ts1 : BoundedList Token) {ks : BoundedList ℕ} {m : Mode} {i k : ℕ}
      → Standing b t0 s0 ts ks m i → BeginsValue m → IsNumberUpTo b i k → EndsItem (byte b k)
      → Becomes ts (ts.elements ++ token_at i k (length ts.elements + 1) ∷ []) ts1 → Standing b t0 s0 ts1 ks After k
  standing_number {ts} ts1 {ks} {m} {k} s v n w e =
      standing_with s After k (grown_more ts ts1 _ s.kept.within e) (omega arith)
      (λ p. number_read start m ks.elements ts.elements p n w v e.elements)

-- the bracket c opens a container of the kind d where a value may begin, and the mode n comes in it
pub record Opens (d : Kind) (n : Mode) (c : ℕ) : Type 0 where
  pub at : (m : Mode) (s : State) → BeginsValue m → read m c s ≡ Some (with_opened d n s)
  pub shown : (i : ℕ) → open_kind (token_at i 0 (open_link d)) ≡ d

array_at : (m : Mode) (s : State) → BeginsValue m → read m 91 s ≡ Some (with_opened Array FirstItem s)
array_at Ready s v = refl
array_at FirstItem s v = refl
array_at _ s v = absurd v

object_at : (m : Mode) (s : State) → BeginsValue m → read m 123 s ≡ Some (with_opened Object FirstName s)
object_at Ready s v = refl
object_at FirstItem s v = refl
object_at _ s v = absurd v

pub opens_array : Opens Array FirstItem 91
opens_array = record { at = array_at; shown = λ i. refl }

pub opens_object : Opens Object FirstName 123
opens_object = grind (arith, object_at)

-- what a call does that opens a container
abbrev opens : Kind → Mode → State → Option State
opens d n s = Some (with_opened d n s)

bracket_at : {d : Kind} {n : Mode} {c : ℕ} → Opens d n c → (b : List ℕ) (m : Mode) (i : ℕ) (s : State) → BeginsValue m
    → byte b i ≡ c → read m (byte b i) s ≡ Some (with_opened d n s)
bracket_at h b m i s v e = cc (h.at m s v)

module _ {d : Kind} {n : Mode} {c : ℕ} (h : Opens d n c) where
  -- behind the bracket that opens a container
  pub standing_opened : (b : List ℕ) (m : Mode) {i : ℕ} {v : Move} {ts ts1 : BoundedList Token} {ks ks1 : BoundedList ℕ}
      → ReadsByte (opens d n) i (Ok v) ts ts1 ks ks1 → BeginsValue m → i < length b → byte b i ≡ c
      → (t0 : BoundedList Token) (s0 : BoundedList ℕ) → Standing b t0 s0 ts ks m i → Standing b t0 s0 ts1 ks1 n (i + 1)
  standing_opened b m {i} {v} {ts} {ks} r w l e t0 s0 s =
      let f : phase_after m i v ≡ between n = sym (ap (λ u. u.phase) (some_same _ _ (r.answer m 0))) in
      standing_moved n v s l r.tokens r.stack f
      (λ p. bracket_at h b m i (idle m ks.elements ts.elements i p) w e ∙ r.answer m p)

  pub opened_in : {ts ts1 : BoundedList Token} {ks ks1 : BoundedList ℕ} {i : ℕ} {v : Move}
      → ReadsByte (opens d n) i (Ok v) ts ts1 ks ks1
      → IsInnermost d ks1.elements ts1.elements
  opened_in {ts} {ks} {i} r =
      let e = some_same _ _ (r.answer Ready 0) in
      innermost_same (ap (λ u. u.stack) e) (ap (λ u. u.tokens) e)
      (innermost_opened d ks.elements ts.elements i (h.shown i))

  -- where it is refused
  pub standing_refused : {b : List ℕ} {m : Mode} {i : ℕ} {f : LineFault} {ts ts1 : BoundedList Token}
      {ks ks1 : BoundedList ℕ}
      → ReadsByte (opens d n) i (Err f) ts ts1 ks ks1 → BeginsValue m → i < length b → byte b i ≡ c
      → {t0 : BoundedList Token} {s0 : BoundedList ℕ} → Standing b t0 s0 ts ks m i
      → GoesOn b t0 s0 (Err f) ts1 ks1
  standing_refused {b} {m} {i} {f} {ts} {ts1} {ks} {ks1} r w l e s = (
    standing_fault s (Unit {0}) ts1 f l (λ p. subst (λ o. Answers o m i p ks.limit (Err f) ks1.elements ts1.elements)
        (sym (bracket_at h b m i (idle m ks.elements ts.elements i p) w e)) (r.answer m p)) r.err.1,
    standing_law s r.tokens r.stack r.err.0 r.err.1,
  )
