-- Numbers as whole numbers of units, and what is left of them.
use Rattle.cj_decimal.proofs.Common.{◌≡◌, ℕ, zero, suc, ◌+◌, ◌-◌, ◌*◌, ◌%◌, ◌^◌, ◌<◌, ◌≤◌, ℤ, pos, neg_ℤ, ◌+ℤ◌, ◌*ℤ◌, ◌≤ℤ◌, ◌<ℤ◌, refl, ap, ◌∙◌, arith, rules, unsigned_abs, ints, to_z-of_z, fits_signed_from_abs, mul-le-mul_right, mul-lt-mul_of_pos_right, Number, scaled, SameValue, IsNormal, negsuc, ◌-ℤ◌, value_order}
use Rattle.std.specs.Prelude.{FitsSigned, Option, Some, None, IfSome, IfNone}
use Rattle.std.specs.Int.{int_gap, w128, cast_signed, cast_unsigned, int_div_euclid, int_rem_euclid, w64}
use Rattle.cj_decimal.proofs.Values.{ten_pow_pos, ten_pow_add, ten_pow_le, scaled_same, same_scaled, same_sym, gap_is, abs_times, ends_in_zero, times_scaled, times_one}
use Rattle.std.specs.Ordering.{int_cmp}
use Rattle.std.specs.declared.cmp.Ordering.{Ordering}
use Rattle.cj_decimal.specs.Affine.{units}
use borrow.Author.Differences.{up, down, same_in, product_is, sum_is_lem}

-- ---- a number as a whole number of units

-- a number whose power is below that of the units is no whole number of them
pub units_below : (v : Number) (u t : ℤ) → IsNormal v → SameValue v (scaled u t) → v.power <ℤ t → t ≤ℤ pos 0 → ⊥
units_below v u t normal same low unit =
    by_gap (int_gap v.power t) (gap_is v.power t (omega (arith, ints)))
    (scaled_same v.coefficient u v.power t same (omega (arith, ints)))
  where
    by_gap : (g : ℕ) → v.power +ℤ pos g ≡ t → v.coefficient ≡ u *ℤ pos (10 ^ g) → ⊥
    by_gap zero f e = omega (arith, ints, f)
    by_gap (suc g) f e =
        let size : unsigned_abs v.coefficient ≡ unsigned_abs u * 10 ^ (g + 1) = ap unsigned_abs e
        ∙ abs_times u (10 ^ suc g) ∙ ap (λ k. unsigned_abs u * 10 ^ k) (omega arith) in
        let none : v ≡ scaled (pos 0) (pos 0) =
        normal.normal (ap (λ n. n % 10) size ∙ ends_in_zero (unsigned_abs u) g) in
        omega (arith, ints, ap (λ (n : Number). n.power) none)

-- the number of units, where the power is k above theirs
pub units_are : (v : Number) (u t : ℤ) (k : ℕ) → v.power ≡ t +ℤ pos k → SameValue v (scaled u t)
    → u ≡ v.coefficient *ℤ pos (10 ^ k)
units_are v u t k f same = search (arith, ints, gap_is, scaled_same, same_sym)

pub units_same : (v : Number) (u t : ℤ) (k : ℕ) → v.power ≡ t +ℤ pos k → u ≡ v.coefficient *ℤ pos (10 ^ k)
    → SameValue v (scaled u t)
units_same v u t k f e = same_sym (same_scaled u v.coefficient t k e f)

split : (k digits : ℕ) → k ≤ digits → 10 ^ digits ≡ 10 ^ (digits - k) * 10 ^ k
split k digits h = ap (λ n. 10 ^ n) (omega arith) ∙ ten_pow_add (digits - k) k

-- a coefficient below a power of ten is below a higher one after the zeros
pub scaled_small : (c k digits : ℕ) → k ≤ digits → c < 10 ^ (digits - k) → c * 10 ^ k < 10 ^ digits
scaled_small c k digits h small =
    let less =
    mul-lt-mul_of_pos_right {m = c} {n = 10 ^ (digits - k)} {k = 10 ^ k} small (ten_pow_pos k) in
    omega (arith, split k digits h)

pub scaled_large : (c k digits : ℕ) → k ≤ digits → 10 ^ (digits - k) ≤ c → 10 ^ digits ≤ c * 10 ^ k
scaled_large c k digits h large =
    let more =
    mul-le-mul_right {m = 10 ^ (digits - k)} {n = c} (10 ^ k) large in
    omega (arith, split k digits h)

-- with as many zeros as the bound has, only 0 is below it
pub zeros_large : (c k digits : ℕ) → 0 < c → digits ≤ k → 10 ^ digits ≤ c * 10 ^ k
zeros_large c k digits some h = search (arith, ten_pow_le)

pub size_of_units : (v : Number) (u t : ℤ) (k : ℕ) → v.power ≡ t +ℤ pos k → SameValue v (scaled u t)
    → unsigned_abs u ≡ unsigned_abs v.coefficient * 10 ^ k
size_of_units v u t k f same = search (arith, units_are, abs_times)

-- where the zeros alone are as many as the bound has, the number is too large
pub far_units : {v : Number} (u : ℤ) (after_point digits k : ℕ) → IsNormal v
    → v.power ≡ neg_ℤ (pos after_point) +ℤ pos k → after_point < digits → digits ≤ k
    → SameValue v (scaled u (neg_ℤ (pos after_point))) → 10 ^ digits ≤ unsigned_abs u
far_units {v} u after_point digits k normal f apart h same = by_size (unsigned_abs v.coefficient) refl
  where
    by_size : (n : ℕ) → unsigned_abs v.coefficient ≡ n → 10 ^ digits ≤ unsigned_abs u
    by_size zero e = absurd (omega (arith, ints, f, ap (λ (n : Number). n.power) (normal.normal (ap (λ n. n % 10) e))))
    by_size (suc n) e =
        omega (
          arith,
          size_of_units v u (neg_ℤ (pos after_point)) k f same,
          zeros_large (unsigned_abs v.coefficient) k digits (omega (arith, e)) h,
        )

-- where the coefficient with its zeros reaches the bound, likewise
pub large_units : (v : Number) (u t : ℤ) (digits k : ℕ) → v.power ≡ t +ℤ pos k
    → 10 ^ digits ≤ unsigned_abs v.coefficient * 10 ^ k → SameValue v (scaled u t) → 10 ^ digits ≤ unsigned_abs u
large_units v u t digits k f large same = omega (arith, size_of_units v u t k f same, large)

-- a product of that size is small, and fits
pub product_small : (c : ℤ) (k digits : ℕ) → k ≤ digits → unsigned_abs c < 10 ^ (digits - k)
    → unsigned_abs (c *ℤ pos (10 ^ k)) < 10 ^ digits
product_small c k digits h small = search (arith, abs_times, scaled_small)

pub product_fits : (c : ℤ) (k digits : ℕ) → k ≤ digits → digits ≤ 36 → unsigned_abs c < 10 ^ (digits - k)
    → unsigned_abs (c *ℤ pos (10 ^ k)) < 10 ^ 36
product_fits c k digits h most small = omega (arith, product_small c k digits h small, ten_pow_le digits 36 most)

pub power_fits : (k : ℕ) → k ≤ 36 → 10 ^ k ≤ 10 ^ 36
power_fits k h = ten_pow_le k 36 h

-- the product as the code computes it
factors_cast : (c : ℤ) (k : ℕ) {power : ℕ} → k ≤ 36 → unsigned_abs c < 10 ^ 36 → power ≡ 10 ^ k
    → cast_signed w128 (cast_unsigned w128 c) *ℤ cast_signed w128 power ≡ c *ℤ pos (10 ^ k)
factors_cast c k {power} most fits e =
    search (arith, ints, power_fits, to_z-of_z, fits_signed_from_abs)

pub product_cast : (c : ℤ) (k digits : ℕ) {power : ℕ} → k ≤ digits → digits ≤ 36 → unsigned_abs c < 10 ^ 36
    → unsigned_abs c < 10 ^ (digits - k) → power ≡ 10 ^ k
    → cast_signed w128 (cast_unsigned w128 (cast_signed w128 (cast_unsigned w128 c) *ℤ cast_signed w128 power))
    ≡ c *ℤ pos (10 ^ k)
product_cast c k digits h most fits small e =
    ap (λ x. cast_signed w128 (cast_unsigned w128 x)) (factors_cast c k (omega arith) fits e)
    ∙ to_z-of_z w128 (c *ℤ pos (10 ^ k))
    (fits_signed_from_abs w128 _ (omega (arith, product_fits c k digits h most small)))

pub product_in_bits : (c : ℤ) (k digits : ℕ) {power : ℕ} → k ≤ digits → digits ≤ 36 → unsigned_abs c < 10 ^ 36
    → unsigned_abs c < 10 ^ (digits - k) → power ≡ 10 ^ k
    → FitsSigned w128 (cast_signed w128 (cast_unsigned w128 c) *ℤ cast_signed w128 power)
product_in_bits c k digits h most fits small e = rw (factors_cast c k (omega arith) fits e)
    (fits_signed_from_abs w128 (c *ℤ pos (10 ^ k)) (omega (arith, product_fits c k digits h most small)))

-- what the product with its zeros answers is the number of units
pub value_in_units : (r : Option ℤ) {v w : Number} (t : ℤ) {x : ℤ} (digits k : ℕ)
    → IfSome r (λ u. (u ≡ x *ℤ pos (10 ^ k)) × (unsigned_abs u < 10 ^ digits)) → v ≡ w → x ≡ v.coefficient
    → v.power ≡ t +ℤ pos k
    → IfSome r (λ u. SameValue w (scaled u t) × (unsigned_abs u < 10 ^ digits))
value_in_units None t digits k h same e f = search rules
value_in_units (Some u) {v} t digits k h same e f = search (arith, units_same)

pub none_in_units : (r : Option ℤ) {v w : Number} (t : ℤ) {x : ℤ} (digits k : ℕ)
    → IfNone r (10 ^ digits ≤ unsigned_abs x * 10 ^ k) → v ≡ w → x ≡ v.coefficient → v.power ≡ t +ℤ pos k
    → IfNone r ((u : ℤ) → SameValue w (scaled u t) → 10 ^ digits ≤ unsigned_abs u)
none_in_units None {v} t digits k h same e f = λ u s. large_units v u t digits k f (rw e at h) (rw same s)
none_in_units (Some u) t digits k h same e f = search rules

-- ---- whole numbers of units, and what is left of them

-- a number is its quotient by 10^18 times that, and its remainder
pub euclid : (z : ℤ) → int_div_euclid z (pos (10 ^ 18)) *ℤ pos (10 ^ 18) +ℤ int_rem_euclid z (pos (10 ^ 18)) ≡ z
euclid (pos a) = omega (arith, ints)
euclid (negsuc a) = omega (arith, ints)

pub euclid_part : (z : ℤ) → (pos 0 ≤ℤ int_rem_euclid z (pos (10 ^ 18)))
    × (int_rem_euclid z (pos (10 ^ 18)) <ℤ pos (10 ^ 18))
euclid_part (pos a) = (omega (arith, ints), omega (arith, ints))
euclid_part (negsuc a) = (omega (arith, ints), omega (arith, ints))

-- products go over sums
pub times_sum : (v x y : ℤ) → v *ℤ (x +ℤ y) ≡ v *ℤ x +ℤ v *ℤ y
times_sum v x y =
    let sum = sum_is_lem x y in
    same_in _ _ (omega (
      arith,
      product_is v (x +ℤ y),
      product_is v x,
      product_is v y,
      sum_is_lem (v *ℤ x) (v *ℤ y),
      ap (λ n. up v * n) sum,
      ap (λ n. down v * n) sum,
    ))

-- ---- how a number compares with another, by the parts of their difference
pub order_from_difference : (x q : ℤ) {d : ℤ} {r : Ordering} → x -ℤ q ≡ d → r ≡ int_cmp d (pos 0) → r ≡ int_cmp x q
order_from_difference x q {d} {r} e f = search arith

-- the difference of the image and q, by the parts of the scale
pub difference : (v whole part shift q : ℤ) → v *ℤ (whole *ℤ pos (10 ^ 18) +ℤ part) +ℤ shift -ℤ q
    ≡ (v *ℤ whole) *ℤ pos (10 ^ 18) +ℤ (v *ℤ part +ℤ shift -ℤ q)
difference v whole part shift q =
    let sum = times_sum v (whole *ℤ pos (10 ^ 18)) part in
    joined (v *ℤ (whole *ℤ pos (10 ^ 18) +ℤ part)) (v *ℤ (whole *ℤ pos (10 ^ 18))) ((v *ℤ whole) *ℤ pos (10 ^ 18))
    (v *ℤ part) sum (times_scaled v whole (10 ^ 18))
  where
    joined : (a b c d : ℤ) → a ≡ b +ℤ d → b ≡ c → a +ℤ shift -ℤ q ≡ c +ℤ (d +ℤ shift -ℤ q)
    joined a b c d e f = omega (arith, ints)

-- the same with what the split of the rest gives
pub difference_by_parts : (v whole part shift q carry left : ℤ)
    → carry *ℤ pos (10 ^ 18) +ℤ left ≡ v *ℤ part +ℤ shift -ℤ q
    → v *ℤ (whole *ℤ pos (10 ^ 18) +ℤ part) +ℤ shift -ℤ q ≡ (v *ℤ whole +ℤ carry) *ℤ pos (10 ^ 18) +ℤ left
difference_by_parts v whole part shift q carry left e =
    joined (v *ℤ whole) (v *ℤ part +ℤ shift -ℤ q) _ (difference v whole part shift q) e
  where
    joined : (w r d : ℤ) → d ≡ w *ℤ pos (10 ^ 18) +ℤ r → carry *ℤ pos (10 ^ 18) +ℤ left ≡ r
        → d ≡ (w +ℤ carry) *ℤ pos (10 ^ 18) +ℤ left
    joined w r d a b = omega (arith, ints)

-- at one power the order of numbers is that of their coefficients
pub units_order : (x q : ℤ) → value_order (units x) (units q) ≡ int_cmp x q
units_order x q = search (arith, times_one)

pub scale_joined : (scale : ℤ) {whole part : ℤ} → int_div_euclid scale (pos (10 ^ 18)) ≡ whole
    → int_rem_euclid scale (pos (10 ^ 18)) ≡ part → scale ≡ whole *ℤ pos (10 ^ 18) +ℤ part
scale_joined scale {whole} e f = search (arith, euclid)

-- a scale below 10^18 in size has a whole part of at most that size
pub whole_small : (scale : ℤ) {whole part : ℤ} → int_div_euclid scale (pos (10 ^ 18)) ≡ whole
    → int_rem_euclid scale (pos (10 ^ 18)) ≡ part → unsigned_abs scale < 10 ^ 36 → unsigned_abs whole ≤ 10 ^ 18
whole_small scale {part} e f small = search (arith, ints, scale_joined, euclid_part)

-- what the steps of the comparison amount to
pub compare_law : (v : ℤ) {scale : ℤ} (whole part shift q : ℤ) {first rest : ℤ} (carry : ℤ) {left second sum last : ℤ}
    {r : Ordering}
    → r ≡ int_cmp (sum *ℤ pos (10 ^ 18) +ℤ last) (pos 0) → carry *ℤ pos (10 ^ 18) +ℤ left ≡ rest
    → scale ≡ whole *ℤ pos (10 ^ 18) +ℤ part → first ≡ v *ℤ part → second ≡ v *ℤ whole
    → rest ≡ first +ℤ shift -ℤ q → sum ≡ second +ℤ carry → last ≡ left → r ≡ int_cmp (v *ℤ scale +ℤ shift) q
compare_law v {scale} whole part shift q carry {left} {sum} {last} e b joined a d f g h =
    let at = b ∙ f ∙ ap (λ x. x +ℤ shift -ℤ q) a in
    let parts = difference_by_parts v whole part shift q carry left at in
    let at_scale = ap (λ x. v *ℤ x +ℤ shift -ℤ q) joined in
    let all =
    ap (λ x. x *ℤ pos (10 ^ 18) +ℤ last) (g ∙ ap (λ x. x +ℤ carry) d)
    ∙ ap (λ x. (v *ℤ whole +ℤ carry) *ℤ pos (10 ^ 18) +ℤ x) h in
    order_from_difference (v *ℤ scale +ℤ shift) q (at_scale ∙ parts) (e ∙ ap (λ x. int_cmp x (pos 0)) all)

-- ---- numbers that went to bits and back
pub product_of_casts : (v p : ℤ) {r : ℤ} → unsigned_abs v ≤ 10 ^ 18 → unsigned_abs p ≤ 10 ^ 18
    → r ≡ cast_signed w64 (cast_unsigned w64 v) *ℤ cast_signed w64 (cast_unsigned w64 p) → r ≡ v *ℤ p
product_of_casts v p a b e = search (arith, to_z-of_z, fits_signed_from_abs)

pub part_small : (scale : ℤ) {part : ℤ} → int_rem_euclid scale (pos (10 ^ 18)) ≡ part → unsigned_abs part ≤ 10 ^ 18
part_small scale {part} f =
    let bounds = rw f at (euclid_part scale) in
    omega (arith, ints)

pub split_cast : (z : ℤ) {w : ℤ} → FitsSigned w128 z
    → w ≡ int_div_euclid (cast_signed w128 (cast_unsigned w128 z)) (pos (10 ^ 18))
    → (w *ℤ pos (10 ^ 18) +ℤ int_rem_euclid z (pos (10 ^ 18)) ≡ z) × (pos 0 ≤ℤ int_rem_euclid z (pos (10 ^ 18)))
    × (int_rem_euclid z (pos (10 ^ 18)) <ℤ pos (10 ^ 18))
split_cast z {w} fits e = search (arith, to_z-of_z, euclid_part, euclid)

pub rest_cast : (p s : ℤ) {u q : ℤ} → unsigned_abs p ≤ 10 ^ 36 → unsigned_abs s < 10 ^ 36 → unsigned_abs u < 10 ^ 36
    → u ≡ q
    → cast_signed w128 (cast_unsigned w128 (cast_signed w128 (cast_unsigned w128
    (cast_signed w128 (cast_unsigned w128 p) +ℤ cast_signed w128 (cast_unsigned w128 s))) -ℤ cast_signed
    w128 (cast_unsigned w128 u))) ≡ p +ℤ s -ℤ q
rest_cast p s a b d e = omega (arith, ints)

pub sum_cast : (p e : ℤ) → unsigned_abs p ≤ 10 ^ 36 → unsigned_abs e ≤ 4 * 10 ^ 18
    → cast_signed w128 (cast_unsigned w128
    (cast_signed w128 (cast_unsigned w128 p) +ℤ cast_signed w128 (cast_unsigned w128 e))) ≡ p +ℤ e
sum_cast p e a b = omega (arith, ints)

pub left_cast : (l : ℤ) → pos 0 ≤ℤ l → l <ℤ pos (10 ^ 18) → cast_signed w128 (cast_unsigned w128 l) ≡ l
left_cast l a b = omega (arith, ints)
