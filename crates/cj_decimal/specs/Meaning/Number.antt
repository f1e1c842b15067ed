-- Numbers c * 10^p, over whole numbers of any size: their range, and their values as whole numbers (RULES, numbers).
use Rattle.std.specs.Prelude.{ℕ, Bool, true, false, cond, Option, Some, None, ℤ, pos, negsuc, neg_ℤ, ◌+ℤ◌, ◌*ℤ◌, ◌*◌}
use Rattle.std.specs.Prelude.{◌^◌, ◌&&◌, nat_lt, nat_le, unsigned_abs}

-- the number `coefficient * 10^power`
pub record Number : Type 0 where
  pub coefficient : ℤ
  pub power : ℤ

-- the number of this coefficient and power
abbrev pub scaled : ℤ → ℤ → Number
scaled c p = record { coefficient = c; power = p }

-- this size, below 0 where the flag is set
abbrev pub signed : Bool → ℕ → ℤ
signed false n = pos n
signed true n = neg_ℤ (pos n)

-- ---- the number is in normal form: its coefficient does not end in 0, or it is 0 with power 0

-- in range: at most 36 digits, and a power from -1,000,000 to 1,000,000
abbrev pub is_in_range : Number → Bool
is_in_range n = nat_lt (unsigned_abs n.coefficient) (10 ^ 36) && nat_le (unsigned_abs n.power) 1000000

-- a whole number, if it is below 10^18 in size
abbrev pub small_whole : ℤ → Option ℤ
small_whole w = cond (nat_lt (unsigned_abs w) (10 ^ 18)) (Some w) None

-- the number as a whole number below 10^18 in size, if it is one. Its power is then 0 or more
abbrev pub whole_by : ℤ → ℤ → Option ℤ
whole_by c (pos k) = small_whole (c *ℤ pos (10 ^ k))
whole_by c (negsuc k) = None

abbrev pub as_whole : Number → Option ℤ
as_whole n = whole_by n.coefficient n.power

-- fixed: a multiple of 10^-18, below 10^18 in size. So its power is -18 or more, and it is below 10^36 units of
-- 10^-18
abbrev pub is_fixed_by : ℤ → ℤ → Bool
is_fixed_by (pos shift) c = nat_lt (unsigned_abs c * 10 ^ shift) (10 ^ 36)
is_fixed_by (negsuc shift) c = false

abbrev pub is_fixed : Number → Bool
is_fixed n = is_fixed_by (n.power +ℤ pos 18) n.coefficient

-- how many units of 10^-18 a fixed number is
abbrev pub units_by : ℤ → ℤ → ℤ
units_by (pos shift) c = c *ℤ pos (10 ^ shift)
units_by (negsuc shift) c = pos 0

abbrev pub units_of : Number → ℤ
units_of n = units_by (n.power +ℤ pos 18) n.coefficient
