-- The normal form of a number that was read, and the classes of its spelling.
use Rattle.cj_decimal.proofs.Common.{◌≡◌, ℕ, ◌+◌, ◌*◌, ◌/◌, ◌%◌, ◌^◌, ◌<◌, ◌≤◌, sym, ap, ◌∙◌, arith, IsTrimmed, zero, suc, Bool, true, false, ℤ, pos, neg_ℤ, ◌+ℤ◌, ◌-ℤ◌, ◌*ℤ◌, ◌≤ℤ◌, ◌<ℤ◌, refl, ⊎_elim, ◌⊎◌, unsigned_abs, pow-add, ints, Number, scaled, signed, SameValue, IsNormal, IsInRange, IsOutOfRange, IsTooLong, StandsFor, Saturates, ◌++◌, List, length, Written, digits_value, number_of, Spells, SpellsNumber, IsValue, HasOneValue, IsNumberInRange, IsNumberOutOfRange, IsReadOf, Option, Some, None, negsuc, is_in_range, whole_by, as_whole, IsWhole, is_number, written_of, Class, no_number, out_of_range, not_whole, whole, smaller_power, brought, digits_front, digits_rest, begins, is_empty, begins_digit, body, is_int, is_frac, frac_digits, after_frac, exp_digits, is_whole_digits, is_exp, exp_value, by_lt_z, to_z-of_z, fits_signed_from_abs, nat_tests}
use Rattle.cj_decimal.proofs.Values.{ten_pow_suc, ten_pow_pos, ten_pow_below, neg_times, same_sym, same_trans, normal_same, same_scaled}
use Rattle.std.specs.Int.{w32, w128, cast_signed, cast_unsigned}
use Rattle.cj_decimal.proofs.Grammar.{spells_test, test_spells}
use Rattle.cj_decimal.specs.Meaning.Number.{small_whole}
use Rattle.cj_decimal.proofs.Scales.{units_below, units_same}
use Rattle.std.specs.Prelude.{nat_eq}
use Rattle.cj_decimal.specs.Rows.{ReadRows, NoNumberRows, UnitRows, WorkedRows}

-- ---- numbers without the zeros at their end

ten_more : (r p : ℕ) → r % 10 ≡ 0 → r * p ≡ r / 10 * (10 * p)
ten_more r p h = let is_whole : r ≡ 10 * (r / 10) = omega arith in ap (λ x. x * p) is_whole ∙ regroup (r / 10) p
  where
    regroup : (q p : ℕ) → 10 * q * p ≡ q * (10 * p)
    regroup q p = omega arith

-- one zero less at the end
pub trim_more : (n r k : ℕ) → n ≡ r * 10 ^ k → r % 10 ≡ 0 → n ≡ r / 10 * 10 ^ (k + 1)
trim_more n r k e h = e ∙ ten_more r (10 ^ k) h ∙ sym (ap (λ p. r / 10 * p) (ten_pow_suc k))

pub trim_left : (r : ℕ) → 0 < r → r % 10 ≡ 0 → 0 < r / 10
trim_left r h e = omega arith

-- as many zeros as fit below a power of ten
pub trim_few : {n : ℕ} (r k b : ℕ) → n ≡ r * 10 ^ k → 0 < r → n < 10 ^ b → k < b
trim_few {n} r k b e h small = search (arith, ten_pow_below)

-- what is left is no greater
pub trimmed_le : {n c k : ℕ} → IsTrimmed n c k → c ≤ n
trimmed_le {c} {k} t = search (arith, ten_pow_pos)

-- ---- the normal form of the number that was read

pub signed_size : (s : Bool) (n : ℕ) → unsigned_abs (signed s n) ≡ n
signed_size false n = refl
signed_size true n = omega (arith, ints)

pub signed_times : (s : Bool) (n k : ℕ) → signed s (n * k) ≡ signed s n *ℤ pos k
signed_times false n k = refl
signed_times true n k = sym (neg_times n k)

signed_zero : (s : Bool) → signed s 0 ≡ pos 0
signed_zero false = refl
signed_zero true = refl

zero_times : (k : ℕ) → pos 0 *ℤ pos k ≡ pos 0
zero_times k = omega (arith, ints)

-- 0 at any power is the pair (0, 0)
pub zero_same : (s : Bool) (n : ℕ) (q : ℤ) → n ≡ 0 → SameValue (scaled (signed s n) q) (scaled (pos 0) (pos 0))
zero_same s n q e = search (arith, signed_zero, zero_times)

pub zero_normal : IsNormal (scaled (pos 0) (pos 0))
zero_normal = record { normal = λ e. refl }

-- the number c with k zeros at its end is the number c at a power k higher
pub trimmed_same : (s : Bool) {n : ℕ} (c k : ℕ) (p q : ℤ) → n ≡ c * 10 ^ k → q ≡ p +ℤ pos k
    → SameValue (scaled (signed s n) p) (scaled (signed s c) q)
trimmed_same s {n} c k p q e f = search (arith, same_scaled, signed_times)

pub trimmed_normal : (s : Bool) (c : ℕ) (q : ℤ) → 0 < c % 10 → IsNormal (scaled (signed s c) q)
trimmed_normal s c q h = search (arith, signed_size)

-- ---- every number has a normal form
abbrev Trimmed : ℕ → Type 0
Trimmed n = (c : ℕ) × (k : ℕ) × IsTrimmed n c k

trim_by_last : (n d : ℕ) → n % 10 ≡ d → 0 < n → (0 < n / 10 → n % 10 ≡ 0 → Trimmed (n / 10)) → Trimmed n
trim_by_last n (suc d) e p more = search arith
trim_by_last n zero e p more =
    let less = more (trim_left n p e) e in (
      less.0,
      less.1 + 1,
      record {
        whole = tenfold less.0 (10 ^ less.1) less.2.whole ∙ sym (ap (λ p. less.0 * p) (ten_pow_suc less.1));
        last = less.2.last;
      },
    )
  where
    tenfold : (c p : ℕ) → n / 10 ≡ c * p → n ≡ c * (10 * p)
    tenfold c p f = omega arith

trim_within : (fuel n : ℕ) → n ≤ fuel → 0 < n → Trimmed n
trim_within zero n h p = absurd (omega arith)
trim_within (suc fuel) n h p = trim_by_last n (n % 10) refl p (λ q e. trim_within fuel (n / 10) (omega (arith, e)) q)

pub trim : (n : ℕ) → 0 < n → (c : ℕ) × (k : ℕ) × IsTrimmed n c k
trim n p = trim_within n n (omega arith) p

abbrev pub NormalOf : Number → Type 0
NormalOf m = (v : Number) × SameValue m v × IsNormal v

pub normal_form : (s : Bool) (n : ℕ) (q : ℤ) → NormalOf (scaled (signed s n) q)
normal_form s zero q = (scaled (pos 0) (pos 0), zero_same s 0 q refl, zero_normal)
normal_form s (suc n) q =
    let t = trim (suc n) (omega arith) in (
      scaled (signed s t.0) (q +ℤ pos t.1),
      trimmed_same s t.0 t.1 q _ t.2.whole refl,
      trimmed_normal s t.0 _ t.2.last,
    )

-- ---- what from_parts answers
-- where the normal form is out of range
out_form : (s : Bool) {n : ℕ} (c up : ℕ) (q : ℤ) → n ≡ c * 10 ^ up → 0 < c % 10
    → (IsInRange (scaled (signed s c) (q +ℤ pos up)) → ⊥) → IsOutOfRange (scaled (signed s n) q)
out_form s c up q is_whole last out = record {
  normal_form = scaled (signed s c) (q +ℤ pos up);
  same = trimmed_same s c up q _ is_whole refl;
  normal = trimmed_normal s c _ last;
  out = out;
}

-- too many digits are out of range in every form
pub too_long_out : (s : Bool) {n : ℕ} (q : ℤ) → IsTooLong n → IsOutOfRange (scaled (signed s n) q)
too_long_out s {n} q long =
    let t = trim n (omega (arith, long.too_long n 0 (omega arith))) in
    let big = long.too_long t.0 t.1 t.2.whole in
    out_form s t.0 t.1 q t.2.whole t.2.last (λ r. omega (arith, signed_size s t.0, big))

-- the digits that were read, without the zeros at their end
pub stands_trimmed : {lead extra : ℕ} {lost : Bool} {n c k : ℕ} → StandsFor lead extra lost n → lost ≡ false
    → IsTrimmed lead c k → n ≡ c * 10 ^ (extra + k)
stands_trimmed {extra} {c} {k} s e t = s.whole e ∙ ap (λ l. l * 10 ^ extra) t.whole
    ∙ regroup c (10 ^ k) (10 ^ extra) ∙ sym (ap (λ p. c * p) (pow-add 10 extra k))
  where
    regroup : (c p q : ℕ) → c * p * q ≡ c * (q * p)
    regroup c p q = omega arith

-- the power that is computed of what was read is the number's power where it is in range, and out of range where that
-- is
pub power_in : {e r : ℤ} (after_point up : ℕ) → Saturates e r → after_point < 2 ^ 64 → up < 2 ^ 65
    → neg_ℤ (pos 1000000) ≤ℤ (r -ℤ pos after_point +ℤ pos up) → (r -ℤ pos after_point +ℤ pos up) ≤ℤ pos 1000000
    → e -ℤ pos after_point +ℤ pos up ≡ r -ℤ pos after_point +ℤ pos up
power_in {e} {r} after_point up s a b low high = search (arith, ints)

pub power_low_out : {e r : ℤ} (after_point up : ℕ) → Saturates e r → after_point < 2 ^ 64 → up < 2 ^ 65
    → (r -ℤ pos after_point +ℤ pos up) <ℤ neg_ℤ (pos 1000000) → (e -ℤ pos after_point +ℤ pos up) <ℤ neg_ℤ (pos 1000000)
power_low_out {e} {r} after_point up s a b h = search (arith, ints, by_lt_z)

pub power_high_out : {e r : ℤ} (after_point up : ℕ) → Saturates e r → after_point < 2 ^ 64 → up < 2 ^ 65
    → pos 1000000 <ℤ (r -ℤ pos after_point +ℤ pos up) → pos 1000000 <ℤ (e -ℤ pos after_point +ℤ pos up)
power_high_out {e} {r} after_point up s a b h = search (arith, ints, by_lt_z)

-- where the power is out of range, the normal form is
pub power_out : (s : Bool) {n : ℕ} (c up : ℕ) (q : ℤ) → n ≡ c * 10 ^ up → 0 < c % 10
    → ((q +ℤ pos up) <ℤ neg_ℤ (pos 1000000))
    ⊎ (pos 1000000 <ℤ (q +ℤ pos up)) → IsOutOfRange (scaled (signed s n) q)
power_out s c up q is_whole last far = out_form s c up q is_whole last
    (λ r. ⊎_elim (λ h. omega (arith, ints)) (λ h. omega (arith, ints)) far)

pub form_in_range : (s : Bool) (c : ℕ) (p : ℤ) → c < 10 ^ 36 → neg_ℤ (pos 1000000) ≤ℤ p → p ≤ℤ pos 1000000
    → IsInRange (scaled (signed s c) p)
form_in_range s c p small low high = search (arith, signed_size)

-- the same at a coefficient and a power that equal these
pub in_form : (s : Bool) {n c k : ℕ} {x p : ℤ} → IsTrimmed n c k → n < 10 ^ 36 → x ≡ signed s c
    → neg_ℤ (pos 1000000) ≤ℤ p → p ≤ℤ pos 1000000 → IsNormal (scaled x p) × IsInRange (scaled x p)
in_form s {c} {p} t small e low high = search (arith, trimmed_normal, form_in_range, trimmed_le)

pub same_form : (s : Bool) {n : ℕ} (c up : ℕ) (q : ℤ) {x p : ℤ} → n ≡ c * 10 ^ up → x ≡ signed s c → p ≡ q +ℤ pos up
    → SameValue (scaled (signed s n) q) (scaled x p)
same_form s c up q {p} is_whole e f = rw e (trimmed_same s c up q p is_whole f)

-- a coefficient that went to bits and back
pub sign_cast : (s : Bool) (c : ℕ) {x : ℤ} → x ≡ signed s c → c < 10 ^ 36
    → cast_signed w128 (cast_unsigned w128 x) ≡ signed s c
sign_cast s c {x} e small = search (arith, to_z-of_z, fits_signed_from_abs, signed_size)

-- the power as the code computes it
pub power_cast : (r : ℤ) (after_point extra more : ℕ) → unsigned_abs r < 10 ^ 36 → after_point < 2 ^ 64 → extra < 2 ^ 64
    → more < 39
    → neg_ℤ (pos 1000000) ≤ℤ (r -ℤ pos after_point +ℤ pos (extra + more))
    → (r -ℤ pos after_point +ℤ pos (extra + more)) ≤ℤ pos 1000000
    → cast_signed w32 (cast_unsigned w32
    (cast_signed w128 (cast_unsigned w128
    (cast_signed w128 (cast_unsigned w128
    (cast_signed w128 (cast_unsigned w128 r) -ℤ cast_signed w128 after_point)) +ℤ cast_signed w128
    (cast_unsigned w128 (cast_signed w128 extra +ℤ cast_signed w128 more))))))
    ≡ r -ℤ pos after_point +ℤ pos (extra + more)
power_cast r after_point extra more a b c d low high = omega (arith, ints)

-- ---- what a spelling that was read stands for, and that its value is one

one_written : {s : List ℕ} {m n : Written} → Spells s m → Spells s n → m ≡ n
one_written {s} {m} {n} a b = sym (spells_test s m a).1 ∙ (spells_test s n b).1

one_value : (s : List ℕ) (v w : Number) → IsValue s v → IsValue s w → v ≡ w
one_value s v w a b =
    let other : SameValue (number_of a.written) w = rw (one_written a.spells b.spells) b.same in
    normal_same (same_trans (same_sym a.same) other) a.normal b.normal

pub has_one_value : (s : List ℕ) → HasOneValue s
has_one_value s = record {
  has = λ n.
      let form = normal_form n.0.negative (digits_value (n.0.int ++ n.0.frac))
      (n.0.exponent -ℤ pos (length n.0.frac)) in
      (form.0, record { written = n.0; spells = n.1; same = form.1; normal = form.2 });
  one = one_value s;
}

module _ {s : List ℕ} {negative : Bool} {lead extra : ℕ} {lost : Bool} {after_point : ℕ} {exponent : ℤ}
    (r : IsReadOf s negative lead extra lost after_point exponent) where
  -- the number of the parts that were read
  abbrev read_number : Number
  read_number =
      scaled (signed negative (digits_value (r.written.int ++ r.written.frac))) (r.written.exponent -ℤ pos after_point)

  pub value_of_read : {v : Number} → SameValue read_number v → IsNormal v → IsValue s v
  value_of_read same normal = record {
    written = r.written;
    spells = r.spells;
    same = rw (r.sign, r.after_point_is) same;
    normal = normal;
  }

  pub out_of_read : IsOutOfRange read_number → IsNumberOutOfRange s
  out_of_read o = (o.normal_form, value_of_read o.same o.normal, o.out)

pub not_both : (s : List ℕ) → IsNumberInRange s → ¬ IsNumberOutOfRange s
not_both s a b =
    b.2 (rw (one_value s a.0 b.0 a.1 b.1) at a.2)

pub value_is_number : (s : List ℕ) (v : Number) → IsValue s v → SpellsNumber s
value_is_number s v a = (a.written, a.spells)

-- ---- each spelling has one of the four classes

-- ---- the range

pub in_range_test : {n : Number} → IsInRange n → is_in_range n ≡ true
in_range_test {n} r = search (arith, nat_tests, ints)

pub test_in_range : (n : Number) → is_in_range n ≡ true → IsInRange n
test_in_range n e = search (arith, nat_tests, ints)

-- ---- as a whole number

is_small : (x w : ℤ) → small_whole x ≡ Some w → (w ≡ x) × (unsigned_abs w < 10 ^ 18)
is_small x w h = (grind (arith, nat_tests), grind (arith, nat_tests))

module _ (v : Number) (normal : IsNormal v) where
  whole_at : (p : ℤ) → v.power ≡ p → {w : ℤ} → IsWhole v w → whole_by v.coefficient p ≡ Some w
  whole_at (pos k) e {w} is = search arith
  whole_at (negsuc k) e {w} is =
      absurd (units_below v w (pos 0) normal is.same (omega (arith, ints, e)) (omega arith))

  at_whole : (p : ℤ) → v.power ≡ p → (w : ℤ) → whole_by v.coefficient p ≡ Some w → IsWhole v w
  at_whole (pos k) e w h = search (arith, ints, is_small, units_same)
  at_whole (negsuc k) e w h = absurd (cc h)

  pub whole_is : {w : ℤ} → IsWhole v w → as_whole v ≡ Some w
  whole_is is = whole_at v.power refl is

  pub is_whole : (w : ℤ) → as_whole v ≡ Some w → IsWhole v w
  is_whole w h = at_whole v.power refl w h

-- ---- the class

module _ {s : List ℕ} {v : Number} (value : IsValue s v) where
  by_whole : IsInRange v → (o : Option ℤ) → as_whole v ≡ o → Class s
  by_whole range (Some w) e = whole v w value range (is_whole v value.normal w e)
  by_whole range None e = not_whole v value range (λ w is. absurd (cc (whole_is v value.normal is, e)))

  by_range : (b : Bool) → is_in_range v ≡ b → Class s
  by_range true e = by_whole (test_in_range v e) (as_whole v) refl
  by_range false e = out_of_range (v, value, λ r. absurd (cc (in_range_test r, e)))

by_test : (s : List ℕ) (test : Bool) → is_number s ≡ test → Class s
by_test s true e =
    let has = (has_one_value s).has (written_of s, test_spells s e) in by_range has.1 (is_in_range has.0) refl
by_test s false e = no_number (λ n. absurd (cc ((spells_test s n.0 n.1).0, e)))

-- the class of a spelling
pub class : (s : List ℕ) → Class s
class s = by_test s (is_number s) refl

-- ---- the worked rows, computed

-- a spelling of a number whose coefficient does not end in 0
row : {s : List ℕ} (v : Number) → is_number s ≡ true
    → brought (number_of (written_of s)) (smaller_power (number_of (written_of s)) v)
    ≡ brought v (smaller_power (number_of (written_of s)) v)
    → nat_eq (unsigned_abs v.coefficient % 10) 0 ≡ false → IsValue s v
row {s} v test same last = record {
  written = written_of s;
  spells = test_spells s test;
  same = record { coefficients = same };
  normal = record { normal = λ e. absurd (cc (rw e at last)) };
}

zero_row : {s : List ℕ} → is_number s ≡ true → SameValue (number_of (written_of s)) (scaled (pos 0) (pos 0))
    → IsValue s (scaled (pos 0) (pos 0))
zero_row {s} test same = search (arith, test_spells, zero_normal)

near : {s : List ℕ} (v : Number) → IsValue s v → is_in_range v ≡ true → IsNumberInRange s
near v value range = (v, value, test_in_range v range)

far : {s : List ℕ} (v : Number) → IsValue s v → is_in_range v ≡ false → IsNumberOutOfRange s
far v value range = (v, value, λ r. let test = in_range_test r in cc)

never_spelled : {s : List ℕ} → is_number s ≡ false → ¬ SpellsNumber s
never_spelled {s} e n = let test = (spells_test s n.0 n.1).0 in cc

read_rows : ReadRows
unfolding digits_front digits_rest begins is_empty begins_digit body is_int is_frac frac_digits after_frac exp_digits
    is_whole_digits is_exp exp_value
read_rows = record {
  thousands = row _ refl refl refl;
  minus_zero = zero_row refl (zero_same true 0 (neg_ℤ (pos 1)) refl);
  zero_of_any_power = zero_row refl (zero_same false 0 (pos 999999999999) refl);
  greatest_power = near (scaled (pos 1) (pos 1000000)) (row _ refl refl refl) refl;
  power_past_the_greatest = far (scaled (pos 1) (pos 1000001)) (row _ refl refl refl) refl;
  power_past_it_in_normal_form = far (scaled (pos 1) (pos 1000001)) (row _ refl refl refl) refl;
  least_power = near (scaled (pos 1) (neg_ℤ (pos 1000000))) (row _ refl refl refl) refl;
  power_below_the_least = far (scaled (pos 1) (neg_ℤ (pos 1000001))) (row _ refl refl refl) refl;
  least_power_in_normal_form = row _ refl refl refl;
  greatest_power_in_normal_form = row _ refl refl refl;
  digits_36 = near (scaled (pos 999999999999999999999999999999999999) (pos 0)) (row _ refl refl refl) refl;
  digits_37 = far (scaled (pos 9999999999999999999999999999999999999) (pos 0)) (row _ refl refl refl) refl;
  zeros_at_the_end = row _ refl refl refl;
  zeros_of_an_exponent = row _ refl refl refl;
}

no_number_rows : NoNumberRows
unfolding digits_front digits_rest begins is_empty begins_digit body is_int is_frac frac_digits after_frac exp_digits
    is_whole_digits is_exp exp_value
no_number_rows = record {
  leading_zero = never_spelled refl;
  leading_plus = never_spelled refl;
  no_digit_after_the_point = never_spelled refl;
  nothing = never_spelled refl;
}

unit_rows : UnitRows
unit_rows = search arith

pub worked_rows : WorkedRows
worked_rows = (read_rows, no_number_rows, unit_rows)
