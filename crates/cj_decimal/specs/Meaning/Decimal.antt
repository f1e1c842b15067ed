-- The value of a spelling: a number in normal form and in range, or why there is none (RULES, numbers). The law
-- `decimal_is_class` says that this agrees with the grammar of numbers.
use Rattle.std.specs.Prelude.{ℕ, List, [], ◌∷◌, ◌++◌, length, Bool, cond, nat_eq, Result, Ok, Err}
use Rattle.std.specs.Prelude.{ℤ, pos, ◌+ℤ◌, ◌-ℤ◌}
use Rattle.cj_decimal.specs.declared.decimal.DecimalFault.{DecimalFault}
use Rattle.cj_decimal.specs.declared.decimal.DecimalFault.TheVariants.{NotANumber, NumberRange}
use Rattle.cj_decimal.specs.Meaning.Number.{Number, scaled, signed, is_in_range}
use Rattle.cj_decimal.specs.Meaning.Reading.{Written, digits_value, is_number, written_of}
use Rattle.cj_decimal.specs.Meaning.Signs.{digit_0}

-- a digit before others, without zeros at the end of all
abbrev pub put_before : ℕ → List ℕ → List ℕ
put_before b [] = cond (nat_eq b digit_0) [] (b ∷ [])
put_before b (d ∷ s) = b ∷ d ∷ s

-- digits without the zeros at their end
abbrev pub without_zeros : List ℕ → List ℕ
without_zeros [] = []
without_zeros (b ∷ s) = put_before b (without_zeros s)

-- the number of a sign, the power of the last digit, and digits; with no digits it is 0
abbrev pub number_by : Bool → ℤ → List ℕ → Number
number_by negative power [] = scaled (pos 0) (pos 0)
number_by negative power (b ∷ s) = scaled (signed negative (digits_value (b ∷ s))) power

-- the number of a sign, an exponent, and digits that all come after the point
abbrev pub number_after : Bool → ℤ → List ℕ → Number
number_after negative exponent s = number_by negative (exponent -ℤ pos (length s)) s

-- the number in normal form: the point moves before the first digit, and the zeros at the end go
abbrev pub normal_of : Written → Number
normal_of n = number_after n.negative (n.exponent +ℤ pos (length n.int)) (without_zeros (n.int ++ n.frac))

-- the number, if it is in range
abbrev pub ranged : Number → Result Number DecimalFault
ranged n = cond (is_in_range n) (Ok n) (Err NumberRange)

-- the value of a spelling
unfoldable pub decimal_of : List ℕ → Result Number DecimalFault
decimal_of s = cond (is_number s) (ranged (normal_of (written_of s))) (Err NotANumber)
