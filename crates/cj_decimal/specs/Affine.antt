-- How an affine map is kept.
use Rattle.std.specs.Prelude.{◌≡◌, ◌<◌, ◌^◌, ℤ, pos, neg_ℤ, unsigned_abs}
use Rattle.std.specs.Int.{int_div_euclid, int_rem_euclid}
use Rattle.cj_decimal.specs.Meaning.Number.{Number, scaled}

-- the number of so many units of 10^-18
abbrev pub units : ℤ → Number
units n = scaled n (neg_ℤ (pos 18))

-- a scale is kept in two parts: how many whole ones, rounded down, and how many units more
pub record IsSplit (scale whole part : ℤ) : Type 0 where
  pub whole_is : int_div_euclid scale (pos (10 ^ 18)) ≡ whole
  pub part_is : int_rem_euclid scale (pos (10 ^ 18)) ≡ part

-- both numbers of a map are below 10^18 in size
pub record IsInUnits (scale shift : ℤ) : Type 0 where
  pub scale_fits : unsigned_abs scale < 10 ^ 36
  pub shift_fits : unsigned_abs shift < 10 ^ 36
