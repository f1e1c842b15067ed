-- How far a spelling was read, and what was read of it.
use Rattle.std.specs.Prelude.{◌≡◌, ℕ, ◌+◌, ◌≤◌, ◌<◌, List, [], ◌++◌, length, drop, Bool, true, ◌^◌, ℤ, pos, neg_ℤ, ◌≤ℤ◌}
use Rattle.std.specs.Prelude.{unsigned_abs}
use Rattle.cj_decimal.specs.inner.Digits.{StandsFor}
use Rattle.cj_decimal.specs.Meaning.Reading.{value_after, digits_value, Written, digits_front, digits_rest, is_int}
use Rattle.cj_decimal.specs.Meaning.Spelling.{Spells}

-- only digits stand from `from` to `at`, so that reading goes on there
pub record Passes (s : List ℕ) (from at : ℕ) : Type 0 where
  pub order : from ≤ at
  pub within : at ≤ length s
  pub rest : digits_rest (drop at s) ≡ digits_rest (drop from s)
  pub count : at + length (digits_front (drop at s)) ≡ from + length (digits_front (drop from s))

-- with the number m at `at` the digits that follow give what they give with n at `from`
pub record Carries (s : List ℕ) (from n at m : ℕ) : Type 0 where
  pub value : value_after m (digits_front (drop at s)) ≡ value_after n (digits_front (drop from s))

-- the digits from `from` on end at `stop`
pub record Stops (s : List ℕ) (from stop : ℕ) : Type 0 where
  pub order : from ≤ stop
  pub within : stop ≤ length s
  pub rest : drop stop s ≡ digits_rest (drop from s)
  pub count : stop ≡ from + length (digits_front (drop from s))

-- the list is an int part and nothing else, of the number n, which is below 10^18
pub record IsShort (s : List ℕ) (n : ℕ) : Type 0 where
  pub int : is_int (digits_front s) ≡ true
  pub rest : digits_rest s ≡ []
  pub value : n ≡ digits_value (digits_front s)
  pub small : n < 10 ^ 18

-- what was read of an exponent: its value, but only that it is 10^35 or more in size where it is
pub record Saturates (e r : ℤ) : Type 0 where
  pub same : unsigned_abs r < 10 ^ 35 → e ≡ r
  pub high : pos (10 ^ 35) ≤ℤ r → pos (10 ^ 35) ≤ℤ e
  pub low : r ≤ℤ neg_ℤ (pos (10 ^ 35)) → e ≤ℤ neg_ℤ (pos (10 ^ 35))

-- the same of the digits of an exponent, which spell n
pub record SaturatesSize (n r : ℕ) : Type 0 where
  pub same : r < 10 ^ 35 → n ≡ r
  pub high : 10 ^ 35 ≤ r → 10 ^ 35 ≤ n

-- the parts that were read stand for what the spelling s says
pub record IsReadOf (s : List ℕ) (negative : Bool) (lead extra : ℕ) (lost : Bool) (after_point : ℕ) (exponent : ℤ) :
    Type 0 where
  pub written : Written
  pub spells : Spells s written
  pub sign : written.negative ≡ negative
  pub digits : StandsFor lead extra lost (digits_value (written.int ++ written.frac))
  pub after_point_is : length written.frac ≡ after_point
  pub exponent_is : Saturates written.exponent exponent
