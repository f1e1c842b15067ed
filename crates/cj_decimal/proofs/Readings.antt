-- What reading answers: decimals, whole numbers, and few digits.
use Rattle.cj_decimal.proofs.Common.{◌≡◌, ℕ, zero, suc, ◌+◌, ◌*◌, ◌^◌, ◌%◌, ◌<◌, ◌≢◌, List, [], ◌∷◌, ◌++◌, length, Bool, cond, Option, Some, None, Ok, Err, ℤ, pos, ◌+ℤ◌, ◌-ℤ◌, refl, sym, ap, ◌∙◌, subst, arith, pow-suc, inl, inr, ints, NotANumber, NumberRange, cond-true, cond-false, false_from_ne_true, length-append, length-replicate, Number, scaled, signed, is_in_range, as_whole, SameValue, IsNormal, IsInRange, IsWhole, Written, value_after, digits_value, is_number, written_of, AllDigits, IsFrac, Spells, IsValue, SpellsNumber, IsNumberOutOfRange, Class, no_number, out_of_range, not_whole, whole, whole_answer, value_answer, whole_answer_by, SaySame, ◌≤◌, drop_more, get_or, true, false, false≢true, Result, negsuc, rules, IfOk, IfSome, IsSome, unsigned_abs, is_ascii_digit, le-mul_of_pos_right, IsInt, IsFewDigits, IsFewSigned, digits_front, digits_rest, is_int, begins, body, Passes, IsShort, mul-le-mul_right, pow-le-pow_right, cases_Bool}
use Rattle.std.proofs.lemmas.Bool.{cond_both, eqb-false, eqb-true}
use Rattle.std.specs.Prelude.{nat_eq, ◌-◌, replicate}
use Rattle.cj_decimal.specs.Meaning.Decimal.{put_before, without_zeros, number_after, normal_of, ranged, decimal_of}
use Rattle.cj_decimal.proofs.Grammar.{all_of, int_digits, spells_test, test_spells, front_all, front_rest, front_alone, rest_alone, front_is_all, int_test, int_from_test, int_is_digits, digit_begins, digit_begins_alone, begins_is, begins_own, minus_there, no_minus, stops_at_other}
use Rattle.cj_decimal.proofs.Parts.{value_append, integer_read}
use Rattle.cj_decimal.proofs.Classes.{zero_same, zero_normal, trimmed_same, trimmed_normal, has_one_value, class, test_in_range, in_range_test, whole_is, normal_form, value_of_read}
pub use Rattle.cj_decimal.proofs.Classes.{is_whole}
use Rattle.cj_decimal.specs.declared.decimal.DecimalFault.{DecimalFault}
use Rattle.cj_decimal.proofs.Values.{ten_pow_pos, same_sym}
use Rattle.cj_decimal.proofs.Scales.{units_below, far_units, size_of_units}

-- ---- the number of a spelling agrees with each class that the spelling has

-- ---- digits without the zeros at their end

-- so many zeros
abbrev zeros : ℕ → List ℕ
zeros k = replicate k 48

-- the last digit, if there is one, is not 0
abbrev EndsWell : List ℕ → Type 0
EndsWell [] = Unit {0}
EndsWell (b ∷ []) = b ≢ 48
EndsWell (b ∷ c ∷ s) = EndsWell (c ∷ s)

-- digits are these, and then zeros
record IsCut (s kept : List ℕ) : Type 0 where
  many : ℕ
  joined : s ≡ kept ++ zeros many
  ends : EndsWell kept

cut_before : (b : ℕ) {s : List ℕ} (kept : List ℕ) → IsCut s kept → IsCut (b ∷ s) (put_before b kept)
cut_before b {s} [] h = cond_both (nat_eq b 48) [] (b ∷ []) (IsCut (b ∷ s))
    (λ e. let joined : b ∷ s ≡ 48 ∷ zeros h.many = rw (eqb-true b 48 e) (ap (λ r. 48 ∷ r) h.joined) in
    record { many = suc h.many; joined = joined; ends = tt })
    (λ e. record { many = h.many; joined = ap (λ r. b ∷ r) h.joined; ends = eqb-false b 48 e })
cut_before b (d ∷ r) h = record { many = h.many; joined = ap (λ r. b ∷ r) h.joined; ends = h.ends }

cut : (s : List ℕ) → IsCut s (without_zeros s)
cut [] = record { many = 0; joined = refl; ends = tt }
cut (b ∷ s) = cut_before b (without_zeros s) (cut s)

zeros_after : (n k : ℕ) → value_after n (zeros k) ≡ n * 10 ^ k
zeros_after n zero = omega arith
zeros_after n (suc k) =
    zeros_after (10 * n + (48 - 48)) k ∙ regroup n (10 ^ k) ∙ sym (ap (λ p. n * p) (pow-suc 10 k))
  where
    regroup : (n p : ℕ) → (10 * n + (48 - 48)) * p ≡ n * (p * 10)
    regroup n p = omega arith

digits_left : (xs ys : List ℕ) → AllDigits (xs ++ ys) → AllDigits xs
digits_left [] ys d = tt
digits_left (b ∷ xs) ys d = (d.0, digits_left xs ys d.1)

digits_both : (xs ys : List ℕ) → AllDigits xs → AllDigits ys → AllDigits (xs ++ ys)
digits_both [] ys d e = e
digits_both (b ∷ xs) ys d e = (d.0, digits_both xs ys d.1 e)

-- digits that do not end in 0 spell no multiple of 10
ends_above : (n b : ℕ) (s : List ℕ) → AllDigits (b ∷ s) → EndsWell (b ∷ s) → 0 < value_after n (b ∷ s) % 10
ends_above n b [] d e = search arith
ends_above n b (c ∷ s) d e = ends_above (10 * n + (b - 48)) c s d.1 e

cut_value : {s kept : List ℕ} → (h : IsCut s kept) → digits_value s ≡ digits_value kept * 10 ^ h.many
cut_value {kept} h = search (arith, value_append, zeros_after)

cut_length : {s kept : List ℕ} → (h : IsCut s kept) → length s ≡ length kept + h.many
cut_length {kept} h = search (arith, length-append, length-replicate)

-- ---- the number in normal form

module _ (negative : Bool) {s : List ℕ} (p e : ℤ) (digits : AllDigits s) (place : e ≡ p +ℤ pos (length s)) where
  is_normal : (kept : List ℕ) → IsCut s kept
      → SameValue (scaled (signed negative (digits_value s)) p) (number_after negative e kept)
      × IsNormal (number_after negative e kept)
  is_normal [] h = (zero_same negative (digits_value s) p (cut_value h ∙ none (10 ^ h.many)), zero_normal)
    where
      none : (k : ℕ) → 0 * k ≡ 0
      none k = omega arith
  is_normal (b ∷ r) h =
      let l = cut_length h in
      let all = digits_left (b ∷ r) (zeros h.many) (subst AllDigits h.joined digits) in (
        trimmed_same negative (digits_value (b ∷ r)) h.many p (e -ℤ pos (length (b ∷ r)))
            (cut_value h) (omega (arith, ints, l)),
        trimmed_normal negative (digits_value (b ∷ r)) (e -ℤ pos (length (b ∷ r))) (ends_above 0 b r all h.ends),
      )

frac_digits_all : (digits s : List ℕ) → IsFrac digits s → AllDigits digits
frac_digits_all digits s (inl none) = subst AllDigits (sym none.0) tt
frac_digits_all digits s (inr some) = all_of digits some.0

written_digits : {s : List ℕ} {n : Written} → Spells s n → AllDigits (n.int ++ n.frac)
written_digits {n} h = search (arith, digits_both, int_digits, frac_digits_all)

-- a number of the grammar has the value that is read
value_is : {s : List ℕ} {n : Written} → Spells s n → IsValue s (normal_of n)
value_is {n} h =
    let digits = n.int ++ n.frac in
    let both = is_normal n.negative (n.exponent -ℤ pos (length n.frac)) (n.exponent +ℤ pos (length n.int))
    (written_digits h) (omega (arith, ints, length-append n.int n.frac)) (without_zeros digits) (cut digits) in
    record { written = n; spells = h; same = both.0; normal = both.1 }

-- ---- the number of a spelling

-- that of a value, if it is in range
decimal_ranged : (s : List ℕ) (v : Number) → IsValue s v → decimal_of s ≡ ranged v
unfolding decimal_of
decimal_ranged s v is =
    let test = (spells_test s is.written is.spells).0 in
    ap (λ b. cond b (ranged (normal_of (written_of s))) (Err NotANumber)) test
    ∙ ap ranged ((has_one_value s).one (normal_of (written_of s)) v (value_is (test_spells s test)) is)

pub decimal_is : (s : List ℕ) (v : Number) → IsValue s v → IsInRange v → decimal_of s ≡ Ok v
decimal_is s v is range = decimal_ranged s v is ∙ cond-true _ _ _ (in_range_test range)

decimal_out : (s : List ℕ) → IsNumberOutOfRange s → decimal_of s ≡ Err NumberRange
decimal_out s o = decimal_ranged s o.0 o.1
    ∙ cond-false _ _ _ (false_from_ne_true (is_in_range o.0) (λ e. o.2 (test_in_range o.0 e)))

decimal_none : (s : List ℕ) → ¬ SpellsNumber s → decimal_of s ≡ Err NotANumber
unfolding decimal_of
decimal_none s n = cond-false _ _ _ (false_from_ne_true (is_number s) (λ e. n (written_of s, test_spells s e)))

pub decimal_class : {s : List ℕ} (c : Class s) → decimal_of s ≡ value_answer c
decimal_class {s} (no_number n) = decimal_none s n
decimal_class {s} (out_of_range n) = decimal_out s n
decimal_class {s} (not_whole v value range n) = decimal_is s v value range
decimal_class {s} (whole v w value range is) = decimal_is s v value range

-- what reading a whole number answers
pub whole_class : (s : List ℕ) (c : Class s) → whole_answer_by (decimal_of s) ≡ whole_answer c
whole_class s c = ap whole_answer_by (decimal_class c) ∙ by_class c
  where
    part : (v : Number) → IsNormal v → ((w : ℤ) → ¬ IsWhole v w) → (o : Option ℤ) → as_whole v ≡ o → o ≡ None
    part v normal none None e = refl
    part v normal none (Some w) e = absurd (none w (is_whole v normal w e))

    by_class : (c : Class s) → whole_answer_by (value_answer c) ≡ whole_answer c
    by_class (not_whole v value range n) = ap Ok (part v value.normal n (as_whole v) refl)
    by_class (whole v w value range is) = ap Ok (whole_is v value.normal is)
    by_class _ = refl

-- it is one, whatever class a spelling is shown to have
pub one_answer : (s : List ℕ) (c d : Class s) → whole_answer c ≡ whole_answer d
one_answer s c d = sym (whole_class s c) ∙ whole_class s d

-- a number of a spelling is its value, and in range
pub decimal_has : (s : List ℕ) (v : Number) → decimal_of s ≡ Ok v → IsValue s v × IsInRange v
decimal_has s v h = by_class (class s) (sym (decimal_class (class s)) ∙ h)
  where
    by_class : (c : Class s) → value_answer c ≡ Ok v → IsValue s v × IsInRange v
    by_class (not_whole u value range n) e = let same : u ≡ v = cc e in
        subst (λ n. IsValue s n × IsInRange n) same (value, range)
    by_class (whole u w value range is) e = let same : u ≡ v = cc e in
        subst (λ n. IsValue s n × IsInRange n) same (value, range)
    by_class _ e = absurd (cc e)

-- ---- two classes of one spelling say the same

by_answers : {s : List ℕ} (j k : Class s) → value_answer j ≡ value_answer k → whole_answer j ≡ whole_answer k
    → SaySame j k
by_answers (no_number n) (no_number m) v w = tt
by_answers (out_of_range n) (out_of_range m) v w = tt
by_answers (not_whole v value range n) (not_whole u also near m) e f = cc e
by_answers (whole v w value range is) (whole u x also near was) e f = (cc e, cc f)
by_answers _ _ v w = absurd (cc w)

pub say_same : {s : List ℕ} (j k : Class s) → SaySame j k
say_same {s} j k = by_answers j k (sym (decimal_class j) ∙ decimal_class k) (one_answer s j k)

-- ---- what reading a whole number answers

-- ---- whichever class a spelling is shown to have
module _ (s : List ℕ) where
  -- what `read` says of its faults
  pub answer_fault : (f : DecimalFault) (c : Class s) → (f ≡ NotANumber → ¬ SpellsNumber s)
      → (f ≡ NumberRange → IsNumberOutOfRange s) → whole_answer c ≡ Err f
  answer_fault NotANumber c none out = one_answer s c (no_number (none refl))
  answer_fault NumberRange c none out = one_answer s c (out_of_range (out refl))

  module _ (v : Number) (value : IsValue s v) (range : IsInRange v) where
    pub answer_whole : (w : ℤ) (c : Class s) → IsWhole v w → whole_answer c ≡ Ok (Some w)
    answer_whole w c is = one_answer s c (whole v w value range is)

    -- what `whole` says of the value
    pub answer_of_whole : (o : Option ℤ) (c : Class s) → IfSome o (IsWhole v) → (((w : ℤ) × IsWhole v w) → IsSome o)
        → whole_answer c ≡ Ok o
    answer_of_whole (Some w) c is back = answer_whole w c is
    answer_of_whole None c is back =
        one_answer s c (not_whole v value range (λ w h. absurd (false≢true (back (w, h)))))

-- a whole number that is answered is below 10^18
below : {s : List ℕ} (c : Class s) → IfOk (whole_answer c) (λ o. IfSome o (λ w. unsigned_abs w < 10 ^ 18))
below (whole v w value range is) = is.small
below _ = search rules

pub answer_below : (s : List ℕ) {r : Result (Option ℤ) DecimalFault} → ((c : Class s) → r ≡ whole_answer c)
    → IfOk r (λ o. IfSome o (λ w. unsigned_abs w < 10 ^ 18))
answer_below s answer = rw (answer (class s)) (below (class s))

-- ---- few digits and nothing else
-- the tests of an int hold of an int alone
pub int_alone_reads : (s : List ℕ) → IsInt s → (is_int (digits_front s) ≡ true) × (digits_rest s ≡ [])
int_alone_reads s int =
    let all = int_digits s int in (ap is_int (front_alone s all) ∙ int_test s int, rest_alone s all)

pub int_short : (s : List ℕ) {n : ℕ} → IsInt s → n ≡ digits_value s → n < 10 ^ 18 → IsShort s n
int_short s int value small = search (arith, int_alone_reads, front_alone, int_digits)

pub int_alone_read : (s : List ℕ) → is_int (digits_front s) ≡ true → digits_rest s ≡ [] → IsInt s
int_alone_read s int rest = rw (front_is_all s rest) at (int_from_test (digits_front s) (front_all s) int)

pub no_int_past_other : (s : List ℕ) (at : ℕ) → Passes s 0 at → at < length s → is_ascii_digit (get_or s at 0) ≡ false
    → ¬ IsInt s
no_int_past_other s at passes here other int =
    search (arith, stops_at_other, int_alone_reads, drop_more)

-- a whole number below 10^18 is in range
whole_in_range : {v : Number} {w : ℤ} → IsNormal v → IsWhole v w → IsInRange v
whole_in_range {v} {w} normal is = by_power v.power refl
  where
    no_less : (c p : ℕ) → 0 < p → c ≤ c * p
    no_less c p h = le-mul_of_pos_right {m = p} c h

    below : (k : ℕ) → (18 ≤ k → 10 ^ 18 ≤ unsigned_abs w) → unsigned_abs w < 10 ^ 18 → k < 18
    below k far small = grind (arith, far)

    by_power : (p : ℤ) → v.power ≡ p → IsInRange v
    by_power (negsuc k) e =
        absurd (units_below v w (pos 0) normal is.same (omega (arith, ints, e)) (omega (arith, ints)))
    by_power (pos k) e =
        let size : unsigned_abs w ≡ unsigned_abs v.coefficient * 10 ^ k =
        size_of_units v w (pos 0) k (omega (arith, ints, e)) is.same in
        let least : unsigned_abs v.coefficient ≤ unsigned_abs v.coefficient * 10 ^ k = no_less _ _ (ten_pow_pos k) in
        let far : 18 ≤ k → 10 ^ 18 ≤ unsigned_abs w =
        λ h. far_units w 0 18 k normal (omega (arith, ints, e)) (omega arith) h is.same in
        let near : k < 18 = below k far is.small in
        record {
          digits = omega (arith, size, least, is.small);
          power_low = omega (arith, ints, e);
          power_high = omega (arith, ints, e, near);
        }

-- an int part that ends the spelling, after its sign, is that whole number
size : (negative : Bool) (n : ℕ) → unsigned_abs (signed negative n) ≡ n
size true n = omega (arith, ints)
size false n = omega (arith, ints)

pub signed_answer : {s : List ℕ} {negative : Bool} {n : ℕ} (c : Class s) → negative ≡ begins 45 s → IsShort (body s) n
    → whole_answer c ≡ Ok (Some (signed negative n))
signed_answer {s} {negative} {n} c sign short =
    let w = signed negative n in
    let read = integer_read s sign short.int short.rest short.value in
    let form = normal_form negative n (pos 0) in
    let digits : digits_value (read.written.int ++ read.written.frac) ≡ n = omega (arith, read.digits.whole refl) in
    let exponent = read.exponent_is.same (omega arith) in
    let value = value_of_read read (rw (digits, exponent) form.1) form.2 in
    let is : IsWhole form.0 w =
    record { same = same_sym form.1; small = rw (size negative n) short.small } in
    answer_whole s form.0 value (whole_in_range form.2 is) w c is

pub answer_digits : (s : List ℕ) (n : ℕ) (c : Class s) → IsShort s n → whole_answer c ≡ Ok (Some (pos n))
answer_digits s n c short =
    let plain = ap (begins 45) (front_rest s)
    ∙ digit_begins 45 (digits_front s) (digits_rest s) (int_is_digits _ (int_from_test _ (front_all s) short.int))
    (omega arith) in
    signed_answer c (sym plain) (rw (no_minus s plain) short)

-- what is said of a short number holds of an answer that may be there
pub answer_of_few : (s : List ℕ) (o : Option ℕ) → IfSome o (λ n. IsShort s n)
    → IfSome o (λ n. (c : Class s) → whole_answer c ≡ Ok (Some (pos n)))
answer_of_few s None short = short
answer_of_few s (Some n) short = λ c. answer_digits s n c short

-- few digits after the sign, if there is one
pub signed_from_body : (s : List ℕ) → IsFewDigits (body s) → IsFewSigned s
signed_from_body s few = search (arith, cases_Bool, begins_is, minus_there, no_minus)

pub body_of_signed : (s : List ℕ) → IsFewSigned s → IsFewDigits (body s)
body_of_signed s (inl few) =
    rw (no_minus s (digit_begins_alone 45 s (int_is_digits s few.0) (omega arith))) few
body_of_signed s (inr minus) =
    rw (minus.1, minus_there (45 ∷ minus.0) (begins_own 45 minus.0)) minus.2

-- ---- few digits, perhaps after a minus, are a whole number

-- digits are worth less than one more of what they go on from
value_below : (n : ℕ) (s : List ℕ) → AllDigits s → value_after n s < (n + 1) * 10 ^ length s
value_below n [] h = omega arith
value_below n (b ∷ s) h =
    let m = 10 * n + (b - 48) in
    let more = mul-le-mul_right (10 ^ length s) (room n b h.0.0 h.0.1) in
    omega (
      arith,
      value_below m s h.1,
      more,
      turned (n + 1) (10 ^ length s),
      ap (λ q. (n + 1) * q) (pow-suc 10 (length s)),
    )
  where
    room : (n b : ℕ) → 48 ≤ b → b ≤ 57 → 10 * n + (b - 48) + 1 ≤ 10 * (n + 1)
    room n b low high = omega arith

    turned : (x p : ℕ) → 10 * x * p ≡ x * (p * 10)
    turned x p = omega arith

pub few_short : (s : List ℕ) → IsFewDigits s → IsShort s (digits_value s)
few_short s few =
    let power : 10 ^ length s ≤ 10 ^ 18 = pow-le-pow_right (omega arith) few.1 in
    int_short s few.0 refl (omega (arith, value_below 0 s (int_digits s few.0), power))

-- whatever class such a spelling has, it has a whole number
pub few_whole : (s : List ℕ) → IsFewSigned s → (w : ℤ) × ((c : Class s) → whole_answer c ≡ Ok (Some w))
few_whole s few = (
  signed (begins 45 s) (digits_value (body s)),
  λ c. signed_answer {negative = begins 45 s} c refl
      (few_short (body s) (body_of_signed s few)),
)
