-- The bytes that may stand in a number without a fraction and an exponent.
use Rattle.std.specs.Prelude.{◌≡◌, ℕ, ◌+◌, ◌-◌, ◌^◌, ◌<◌, ◌≤◌, List, length, true, false, nat_eq}
use Rattle.std.specs.Int.{bit_at}
use Rattle.cj_spans.specs.Meaning.Json.{byte}
use Rattle.cj_spans.specs.inner.Machine.{is_digit}
use Rattle.cj_spans.specs.Meaning.Signs.{comma, decimal_point, digit_9}

-- a byte from the comma to 9 that is no point: a digit, a minus, a comma, or a slash, which no number has
abbrev pub IsWholeSign : ℕ → Type 0
IsWholeSign b = (comma ≤ b) × (b ≤ digit_9) × (nat_eq b decimal_point ≡ false)

-- the bits of m tell which bytes from i to j are no digits
pub record AreMarkedTo (b : List ℕ) (i j m : ℕ) : Type 0 where
  pub order : i ≤ j
  pub near : j ≤ i + 32
  pub within : j ≤ length b
  pub few : m < 2 ^ (j - i)
  pub digits : (k : ℕ) → i + k < j → bit_at m k ≡ 0 → is_digit (byte b (i + k)) ≡ true

-- the same up to a place within the line
pub record AreMarked (b : List ℕ) (i m : ℕ) : Type 0 where
  pub stop : ℕ
  pub marked : AreMarkedTo b i stop m
