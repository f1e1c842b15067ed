-- Worked rows: what the definitions say of some spellings and numbers.
use Rattle.std.specs.Prelude.{◌-◌, ◌^◌, pos, neg_ℤ, codes, []}
use Rattle.cj_decimal.specs.Meaning.Number.{scaled}
use Rattle.cj_decimal.specs.Meaning.Equality.{IsWhole, IsFixed}
use Rattle.cj_decimal.specs.Meaning.Spelling.{SpellsNumber, IsValue, IsNumberInRange, IsNumberOutOfRange}

-- spellings that have these values
pub record ReadRows : Type 0 where
  pub thousands : IsValue (codes "1.50e3") (scaled (pos 15) (pos 2))
  pub minus_zero : IsValue (codes "-0.0") (scaled (pos 0) (pos 0))
  pub zero_of_any_power : IsValue (codes "0e999999999999") (scaled (pos 0) (pos 0))
  pub greatest_power : IsNumberInRange (codes "1e1000000")
  pub power_past_the_greatest : IsNumberOutOfRange (codes "1e1000001")
  pub power_past_it_in_normal_form : IsNumberOutOfRange (codes "10e1000000")
  pub least_power : IsNumberInRange (codes "1e-1000000")
  pub power_below_the_least : IsNumberOutOfRange (codes "1e-1000001")
  pub least_power_in_normal_form : IsValue (codes "10e-1000001") (scaled (pos 1) (neg_ℤ (pos 1000000)))
  pub greatest_power_in_normal_form : IsValue (codes "0.1e1000001") (scaled (pos 1) (pos 1000000))
  pub digits_36 : IsNumberInRange (codes "999999999999999999999999999999999999")
  pub digits_37 : IsNumberOutOfRange (codes "9999999999999999999999999999999999999")
  pub zeros_at_the_end : IsValue (codes "10000000000000000000000000000000000000000") (scaled (pos 1) (pos 40))
  pub zeros_of_an_exponent : IsValue (codes "1e0000000000000000000001") (scaled (pos 1) (pos 1))

-- spellings that are no numbers
pub record NoNumberRows : Type 0 where
  pub leading_zero : ¬ SpellsNumber (codes "01")
  pub leading_plus : ¬ SpellsNumber (codes "+1")
  pub no_digit_after_the_point : ¬ SpellsNumber (codes "1.")
  pub nothing : ¬ SpellsNumber []

-- numbers as whole and as fixed ones
pub record UnitRows : Type 0 where
  pub twelve : IsWhole (scaled (pos 12) (pos 0)) (pos 12)
  pub hundred : IsWhole (scaled (pos 1) (pos 2)) (pos 100)
  pub greatest_whole : IsWhole (scaled (pos 999999999999999999) (pos 0)) (pos 999999999999999999)
  pub thousandth : IsFixed (scaled (pos 1) (neg_ℤ (pos 3))) (pos (10 ^ 15))
  pub least_fixed : IsFixed (scaled (neg_ℤ (pos (10 ^ 36 - 1))) (neg_ℤ (pos 18))) (neg_ℤ (pos (10 ^ 36 - 1)))

-- the worked rows
abbrev pub WorkedRows : Type 0
WorkedRows = ReadRows × NoNumberRows × UnitRows
