-- Numbers that are equal, in normal form, in range, whole or fixed, as relations.
use Rattle.std.specs.Prelude.{◌≡◌, ◌%◌, ◌^◌, ◌<◌, Bool, ℤ, pos, neg_ℤ, ◌*ℤ◌, ◌≤ℤ◌, unsigned_abs}
use Rattle.std.specs.Int.{int_gap, int_min}
use Rattle.std.specs.Ordering.{int_cmp, int_eq, on, eq_of_both}
use Rattle.std.specs.declared.cmp.Ordering.{Ordering}
use Rattle.cj_decimal.specs.Meaning.Number.{Number, scaled}

-- the smaller of two numbers' powers
abbrev pub smaller_power : Number → Number → ℤ
smaller_power m n = int_min m.power n.power

-- a number's coefficient once it is brought to a power that is not above its own
abbrev pub brought : Number → ℤ → ℤ
brought n power = n.coefficient *ℤ pos (10 ^ int_gap power n.power)

-- the two numbers are equal: brought to the smaller power they have one coefficient
pub record SameValue (m n : Number) : Type 0 where
  pub coefficients : brought m (smaller_power m n) ≡ brought n (smaller_power m n)

-- the two have one coefficient and one power
abbrev pub same_parts : Number → Number → Bool
same_parts = eq_of_both (on (λ n. n.coefficient) int_eq) (on (λ n. n.power) int_eq)

-- how two numbers compare, both brought to the smaller power
abbrev pub value_order : Number → Number → Ordering
value_order m n = int_cmp (brought m (smaller_power m n)) (brought n (smaller_power m n))

-- normal form: a coefficient that is a multiple of 10 is that of the pair (0, 0)
pub record IsNormal (n : Number) : Type 0 where
  pub normal : unsigned_abs n.coefficient % 10 ≡ 0 → n ≡ scaled (pos 0) (pos 0)

-- at most 36 digits, and a power from -1,000,000 to 1,000,000
pub record IsInRange (n : Number) : Type 0 where
  pub digits : unsigned_abs n.coefficient < 10 ^ 36
  pub power_low : neg_ℤ (pos 1000000) ≤ℤ n.power
  pub power_high : n.power ≤ℤ pos 1000000

-- the number's normal form is out of range
pub record IsOutOfRange (n : Number) : Type 0 where
  pub normal_form : Number
  pub same : SameValue n normal_form
  pub normal : IsNormal normal_form
  pub out : ¬ IsInRange normal_form

-- the number is the whole number w, which is below 10^18 in size
pub record IsWhole (n : Number) (w : ℤ) : Type 0 where
  pub same : SameValue n (scaled w (pos 0))
  pub small : unsigned_abs w < 10 ^ 18

-- the number is u units of 10^-18, and below 10^18 in size
pub record IsFixed (n : Number) (u : ℤ) : Type 0 where
  pub same : SameValue n (scaled u (neg_ℤ (pos 18)))
  pub small : unsigned_abs u < 10 ^ 36
