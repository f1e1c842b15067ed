-- Powers of ten, equality of numbers, and its laws.
use Rattle.cj_decimal.proofs.Common.{◌≡◌, ℕ, zero, suc, ◌+◌, ◌*◌, ◌^◌, ◌<◌, ◌≤◌, ℤ, pos, neg_ℤ, ◌*ℤ◌, refl, sym, ap, arith, one-le-pow, pow-le-pow_right, pow-add, ints, ◌%◌, negsuc, ◌+ℤ◌, ◌≤ℤ◌, true, ◌∙◌, inl, inr, ⊎_elim, unsigned_abs, ◌⊎◌, clamps, unsigned_abs-mul, by_lt_z, to_z-of_z, Number, scaled, smaller_power, brought, SameValue, IsNormal, IsInRange, le_of_mul-le-mul_right, mul-mod_right, fits_signed_from_abs}
use borrow.Author.Differences.{up, down, same_in, same_out, product_is}
use Rattle.std.proofs.lemmas.Bool.{eq-eqb, eqb-true}
use Rattle.std.specs.Prelude.{nat_eq, FitsSigned, ◌↔◌}
use Rattle.std.specs.Int.{int_gap, int_min, Width, w32, w128, cast_signed, cast_unsigned}

-- ---- powers of ten, and products with them

pub ten_pow_pos : (k : ℕ) → 0 < 10 ^ k
ten_pow_pos k = search (arith, one-le-pow)

-- 10^(k + 1) is ten times 10^k
pub ten_pow_suc : (k : ℕ) → 10 ^ (k + 1) ≡ 10 * 10 ^ k
ten_pow_suc k = omega (arith, pow-add 10 k 1)

pub ten_pow_le : (i j : ℕ) → i ≤ j → 10 ^ i ≤ 10 ^ j
ten_pow_le i j h = search (arith, pow-le-pow_right)

pub ten_pow_add : (i j : ℕ) → 10 ^ (i + j) ≡ 10 ^ i * 10 ^ j
ten_pow_add i j = pow-add 10 i j

-- a power below another has a smaller exponent
pub ten_pow_below : (i j : ℕ) → 10 ^ i < 10 ^ j → i < j
ten_pow_below i j h = grind (arith, ten_pow_le j i)

pub mul_right_cancel : (a b k : ℕ) → 0 < k → a * k ≡ b * k → a ≡ b
mul_right_cancel a b k p e = search (arith, le_of_mul-le-mul_right)

-- a whole number times a positive one can be divided by it again
pub times_cancel : (x y : ℤ) (k : ℕ) → 0 < k → x *ℤ pos k ≡ y *ℤ pos k → x ≡ y
times_cancel x y k p e = search (arith, same_in, mul_right_cancel, same_out, product_is)

pub times_scaled : (v a : ℤ) (u : ℕ) → v *ℤ (a *ℤ pos u) ≡ (v *ℤ a) *ℤ pos u
times_scaled v a u =
    let scaled = product_is a (pos u) in
    let first = product_is v a in
    same_in _ _ (omega (
      arith,
      product_is v (a *ℤ pos u),
      product_is (v *ℤ a) (pos u),
      ap (λ n. up v * n) scaled.0,
      ap (λ n. up v * n) scaled.1,
      ap (λ n. down v * n) scaled.0,
      ap (λ n. down v * n) scaled.1,
      ap (λ n. n * u) first.0,
      ap (λ n. n * u) first.1,
    ))

pub neg_times : (m b : ℕ) → neg_ℤ (pos m) *ℤ pos b ≡ neg_ℤ (pos (m * b))
neg_times zero b = search arith
neg_times (suc m) b = refl

pub times_times : (x : ℤ) (a b : ℕ) → (x *ℤ pos a) *ℤ pos b ≡ x *ℤ pos (a * b)
times_times x a b = sym (times_scaled x (pos a) b)

pub times_one : (x : ℤ) → x *ℤ pos 1 ≡ x
times_one x = omega (arith, ints)

-- ---- equality of numbers, and its laws

-- the gap between two numbers in order
pub gap_is : (t u : ℤ) → t ≤ℤ u → t +ℤ pos (int_gap t u) ≡ u
gap_is (pos a) (pos b) h = omega (arith, ints)
gap_is (pos a) (negsuc b) h = omega (arith, ints)
gap_is (negsuc a) (pos b) h = omega (arith, ints)
gap_is (negsuc a) (negsuc b) h = omega (arith, ints)

pub gap_add : (t u p : ℤ) → t ≤ℤ u → u ≤ℤ p → int_gap t p ≡ int_gap u p + int_gap t u
gap_add t u p h k = search (arith, ints, gap_is)

pub smaller_left : (m n : Number) → smaller_power m n ≤ℤ m.power
smaller_left m n = omega (arith, ints, clamps)

pub smaller_right : (m n : Number) → smaller_power m n ≤ℤ n.power
smaller_right m n = omega (arith, ints, clamps)

-- a number brought further down is multiplied by the powers on the way
pub brought_lower : (n : Number) (t u : ℤ) → t ≤ℤ u → u ≤ℤ n.power → brought n t ≡ brought n u *ℤ pos (10 ^ int_gap t u)
brought_lower n t u h k =
    ap (λ g. n.coefficient *ℤ pos (10 ^ g)) (gap_add t u n.power h k)
    ∙ ap (λ g. n.coefficient *ℤ pos g) (ten_pow_add (int_gap u n.power) (int_gap t u))
    ∙ sym (times_times n.coefficient (10 ^ int_gap u n.power) (10 ^ int_gap t u))

-- equal numbers are equal at any power that is not above theirs
pub same_at : {m n : Number} (t : ℤ) → SameValue m n → t ≤ℤ m.power → t ≤ℤ n.power → brought m t ≡ brought n t
same_at {m} {n} t same h k =
    let low : t ≤ℤ smaller_power m n = omega (arith, ints, clamps) in
    brought_lower m t (smaller_power m n) low (smaller_left m n)
    ∙ ap (λ c. c *ℤ pos (10 ^ int_gap t (smaller_power m n))) same.coefficients
    ∙ sym (brought_lower n t (smaller_power m n) low (smaller_right m n))

-- and numbers that are equal at one such power are equal
pub at_same : (m n : Number) (t : ℤ) → t ≤ℤ m.power → t ≤ℤ n.power → brought m t ≡ brought n t → SameValue m n
at_same m n t h k e =
    let low : t ≤ℤ smaller_power m n = omega (arith, ints, clamps) in
    let scaled =
    sym (brought_lower m t (smaller_power m n) low (smaller_left m n)) ∙ e
    ∙ brought_lower n t (smaller_power m n) low (smaller_right m n) in
    record { coefficients = times_cancel _ _ (10 ^ int_gap t (smaller_power m n)) (ten_pow_pos _) scaled }

pub same_sym : {m n : Number} → SameValue m n → SameValue n m
same_sym {m} {n} h = at_same n m (smaller_power m n) (smaller_right m n) (smaller_left m n) (sym h.coefficients)

pub same_refl : (m : Number) → SameValue m m
same_refl m = record { coefficients = refl }

pub same_trans : {l m n : Number} → SameValue l m → SameValue m n → SameValue l n
same_trans {l} {m} {n} h k =
    let t = int_min (smaller_power l m) n.power in
    let tl : t ≤ℤ l.power = omega (arith, ints, clamps) in
    let tm : t ≤ℤ m.power = omega (arith, ints, clamps) in
    let tn : t ≤ℤ n.power = omega (arith, ints, clamps) in
    at_same l n t tl tn (same_at t h tl tm ∙ same_at t k tm tn)

-- a coefficient with k zeros at its end, and a power that is k greater without them
pub same_scaled : (c d : ℤ) (p : ℤ) {q : ℤ} (k : ℕ) → c ≡ d *ℤ pos (10 ^ k) → q ≡ p +ℤ pos k
    → SameValue (scaled c p) (scaled d q)
same_scaled c d p {q} k e f = search (arith, ints, gap_is, at_same, times_one)

-- and the other way round
pub scaled_same : (c d : ℤ) (p q : ℤ) → SameValue (scaled c p) (scaled d q) → p ≤ℤ q → c ≡ d *ℤ pos (10 ^ int_gap p q)
scaled_same c d p q same low = search (arith, ints, gap_is, times_one, same_at)

pub number_eq : (m n : Number) → m.coefficient ≡ n.coefficient → m.power ≡ n.power → m ≡ n
number_eq m n e f = search arith

pub abs_times : (c : ℤ) (k : ℕ) → unsigned_abs (c *ℤ pos k) ≡ unsigned_abs c * k
abs_times c k = unsigned_abs-mul c (pos k)

pub swap_ten : (n p : ℕ) → n * (10 * p) ≡ 10 * (n * p)
swap_ten n p = omega arith

-- a multiple of a power of ten above 1 is a multiple of 10
pub ends_in_zero : (n k : ℕ) → n * 10 ^ (k + 1) % 10 ≡ 0
ends_in_zero n k = search (arith, ten_pow_suc, swap_ten, mul-mod_right)

pub le_total : (a b : ℤ) → (a ≤ℤ b) ⊎ (b ≤ℤ a)
le_total a b = by_lt_z a b (λ h. inl (omega (arith, ints))) (λ h. inr h)

normal_gap : {v w : Number} → IsNormal v → IsNormal w → v.power ≤ℤ w.power → (g : ℕ) → v.power +ℤ pos g ≡ w.power
    → v.coefficient ≡ w.coefficient *ℤ pos (10 ^ g) → v ≡ w
normal_gap {v} {w} a b low zero f e = number_eq v w (e ∙ times_one w.coefficient) (omega (arith, ints, f))
normal_gap {v} {w} a b low (suc g) f e =
    let size = ap unsigned_abs e
    ∙ abs_times w.coefficient (10 ^ suc g) ∙ ap (λ k. unsigned_abs w.coefficient * 10 ^ k) (omega arith) in
    let zero_v =
    a.normal (ap (λ n. n % 10) size ∙ ends_in_zero (unsigned_abs w.coefficient) g) in
    let none = sym size
    ∙ ap (λ n. unsigned_abs n.coefficient) zero_v ∙ omega arith in
    let zero_w =
    mul_right_cancel (unsigned_abs w.coefficient) 0 (10 ^ (g + 1)) (ten_pow_pos (g + 1)) none in
    zero_v ∙ sym (b.normal (ap (λ n. n % 10) zero_w))

-- two forms, both normal, the first at the lower power
pub normal_below : {v w : Number} → SameValue v w → IsNormal v → IsNormal w → v.power ≤ℤ w.power → v ≡ w
normal_below {v} {w} same a b low = search (arith, normal_gap, gap_is, scaled_same)

-- equal numbers in normal form are one
pub normal_same : {v w : Number} → SameValue v w → IsNormal v → IsNormal w → v ≡ w
normal_same {v} {w} same a b =
    ⊎_elim (normal_below same a b) (λ h. sym (normal_below (same_sym same) b a h)) (le_total v.power w.power)

-- ---- equality as the code tests it
bits_apart : (w : Width) (p q : ℤ) → FitsSigned w p → FitsSigned w q
    → nat_eq (cast_unsigned w p) (cast_unsigned w q) ≡ true → p ≡ q
bits_apart w p q a b e = search (arith, to_z-of_z, eqb-true)

bits_same : (w : Width) (p q : ℤ) → p ≡ q → nat_eq (cast_unsigned w p) (cast_unsigned w q) ≡ true
bits_same w p q e = eq-eqb _ _ (ap (cast_unsigned w) e)

coefficient_fits : {v : Number} → IsInRange v → FitsSigned w128 v.coefficient
coefficient_fits {v} r = search (arith, fits_signed_from_abs)

-- a coefficient in range that went to bits and back
pub coefficient_same : {v : Number} → IsInRange v → cast_signed w128 (cast_unsigned w128 v.coefficient) ≡ v.coefficient
coefficient_same {v} r = to_z-of_z w128 v.coefficient (coefficient_fits r)

pub coefficient_cast : {v : Number} → IsInRange v
    → unsigned_abs (cast_signed w128 (cast_unsigned w128 v.coefficient)) < 10 ^ 36
coefficient_cast r = rw (coefficient_same r) r.digits

power_fits : {v : Number} → IsInRange v → FitsSigned w32 v.power
power_fits r = omega (arith, ints, r.power_low, r.power_high)

-- with one coefficient: equal exactly where the powers are
pub same_by_power : {v w : Number} → IsNormal v × IsInRange v → IsNormal w × IsInRange w
    → cast_unsigned w128 v.coefficient ≡ cast_unsigned w128 w.coefficient
    → (nat_eq (cast_unsigned w32 v.power) (cast_unsigned w32 w.power) ≡ true) ↔ SameValue v w
same_by_power {v} {w} a b e =
    let c = sym (to_z-of_z w128 v.coefficient (coefficient_fits a.1))
    ∙ ap (cast_signed w128) e ∙ to_z-of_z w128 w.coefficient (coefficient_fits b.1) in (
      λ h. rw (number_eq v w c (bits_apart w32 v.power w.power (power_fits a.1) (power_fits b.1) h)) (same_refl w),
      λ same. bits_same w32 v.power w.power (ap (λ (n : Number). n.power) (normal_same same a.0 b.0)),
    )

-- with two coefficients: never equal
pub apart_by_coefficient : {v w : Number} → IsNormal v × IsInRange v → IsNormal w × IsInRange w
    → (cast_unsigned w128 v.coefficient ≡ cast_unsigned w128 w.coefficient → ⊥)
    → (nat_eq (cast_unsigned w128 v.coefficient) (cast_unsigned w128 w.coefficient) ≡ true) ↔ SameValue v w
apart_by_coefficient a b apart = (
  λ h. absurd (apart (eqb-true _ _ h)),
  λ same. absurd (apart (ap (λ (n : Number). cast_unsigned w128 n.coefficient) (normal_same same a.0 b.0))),
)

pub turned : (P : Type 0) (v w : Number) → P ↔ SameValue w v → P ↔ SameValue v w
turned P v w h = (λ p. same_sym (h.0 p), λ s. h.1 (same_sym s))
