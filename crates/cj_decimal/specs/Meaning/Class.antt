-- What a spelling is as a number: exactly one of four, as the law `one_class` says.
use Rattle.std.specs.Prelude.{◌≡◌, ℕ, List, ℤ, Option, Some, None, Result, Ok, Err}
use Rattle.cj_decimal.specs.Meaning.Number.{Number, as_whole}
use Rattle.cj_decimal.specs.Meaning.Equality.{IsInRange, IsWhole}
use Rattle.cj_decimal.specs.Meaning.Spelling.{SpellsNumber, IsValue, IsNumberOutOfRange}
use Rattle.cj_decimal.specs.declared.decimal.DecimalFault.{DecimalFault}
use Rattle.cj_decimal.specs.declared.decimal.DecimalFault.TheVariants.{NotANumber, NumberRange}

-- no number, a number out of range, one in range that is not whole, or a whole one
pub data Class (s : List ℕ) : Type 0 where
  no_number : ¬ SpellsNumber s → Class s
  out_of_range : IsNumberOutOfRange s → Class s
  not_whole : (v : Number) → IsValue s v → IsInRange v → ((w : ℤ) → ¬ IsWhole v w) → Class s
  whole : (v : Number) (w : ℤ) → IsValue s v → IsInRange v → IsWhole v w → Class s

-- what reading a whole number answers for a spelling of each class
abbrev pub whole_answer : {s : List ℕ} → Class s → Result (Option ℤ) DecimalFault
whole_answer (no_number n) = Err NotANumber
whole_answer (out_of_range n) = Err NumberRange
whole_answer (not_whole v value range n) = Ok None
whole_answer (whole v w value range is) = Ok (Some w)

-- the number of a spelling of each class, or why there is none
abbrev pub value_answer : {s : List ℕ} → Class s → Result Number DecimalFault
value_answer (no_number n) = Err NotANumber
value_answer (out_of_range n) = Err NumberRange
value_answer (not_whole v value range n) = Ok v
value_answer (whole v w value range is) = Ok v

-- the value of a number in range, by its class
abbrev pub value_by : {s : List ℕ} → Class s → Option Number
value_by (no_number n) = None
value_by (out_of_range n) = None
value_by (not_whole v value range n) = Some v
value_by (whole v w value range is) = Some v

-- what reading a whole number answers, by the number of the spelling
abbrev pub whole_answer_by : Result Number DecimalFault → Result (Option ℤ) DecimalFault
whole_answer_by (Ok v) = Ok (as_whole v)
whole_answer_by (Err e) = Err e

-- both say the same: the same class, and of a number in range the same value
abbrev pub SaySame : {s : List ℕ} → Class s → Class s → Type 0
SaySame (no_number n) (no_number m) = Unit {0}
SaySame (no_number n) (out_of_range m) = ⊥
SaySame (no_number n) (not_whole u also near m) = ⊥
SaySame (no_number n) (whole u x also near was) = ⊥
SaySame (out_of_range n) (no_number m) = ⊥
SaySame (out_of_range n) (out_of_range m) = Unit {0}
SaySame (out_of_range n) (not_whole u also near m) = ⊥
SaySame (out_of_range n) (whole u x also near was) = ⊥
SaySame (not_whole v value range n) (no_number m) = ⊥
SaySame (not_whole v value range n) (out_of_range m) = ⊥
SaySame (not_whole v value range n) (not_whole u also near m) = v ≡ u
SaySame (not_whole v value range n) (whole u x also near was) = ⊥
SaySame (whole v w value range is) (no_number m) = ⊥
SaySame (whole v w value range is) (out_of_range m) = ⊥
SaySame (whole v w value range is) (not_whole u also near m) = ⊥
SaySame (whole v w value range is) (whole u x also near was) = (v ≡ u) × (w ≡ x)
