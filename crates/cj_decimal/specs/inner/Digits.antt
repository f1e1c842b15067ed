-- What private functions say of the digits that they have read.
use Rattle.std.specs.Prelude.{◌≡◌, ℕ, ◌*◌, ◌^◌, ◌%◌, ◌<◌, ◌≤◌, Bool, true, false}

-- whatever zeros are cut from its end, more than 36 digits are left of n
pub record IsTooLong (n : ℕ) : Type 0 where
  pub too_long : (c k : ℕ) → n ≡ c * 10 ^ k → 10 ^ 36 ≤ c

-- the digits read so far spell n: `lead` and `extra` zeros, or too many digits to be kept
pub record StandsFor (lead extra : ℕ) (lost : Bool) (n : ℕ) : Type 0 where
  pub whole : lost ≡ false → n ≡ lead * 10 ^ extra
  pub cut : lost ≡ true → IsTooLong n

-- n is c and k zeros after it, and c does not end in 0
pub record IsTrimmed (n c k : ℕ) : Type 0 where
  pub whole : n ≡ c * 10 ^ k
  pub last : 0 < c % 10
