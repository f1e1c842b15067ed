-- The rules on numbers: in range, whole, an index (RULES, numbers and terms).
use Rattle.std.specs.Prelude.{ℕ, List, [], Bool, true, false, not, cond, nat_lt, Option, Some, None, Result, Ok, Err}
use Rattle.std.specs.Prelude.{option_and_then, ℤ, pos, negsuc}
use Rattle.std.specs.Result.{result_ok}
use Rattle.cj_spans.specs.declared.reason.Reason.{Reason}
use Rattle.cj_spans.specs.declared.reason.Reason.TheVariants.{WrongKind, NumberRange, NotWhole}
use Rattle.cj_spans.specs.declared.finding.Finding.{Finding}
use Rattle.cj_spans.specs.Meaning.Tree.{Tree, scalar}
use Rattle.cj_spans.specs.Meaning.Kinds.{is_number}
use Rattle.cj_spans.specs.Meaning.Parts.{kind_of}
use Rattle.cj_decimal.specs.declared.decimal.DecimalFault.{DecimalFault}
use Rattle.cj_decimal.specs.declared.decimal.DecimalFault.TheVariants.{NotANumber, NumberRange as OutOfRange}
use Rattle.cj_decimal.specs.Meaning.Number.{Number, as_whole}
use Rattle.cj_decimal.specs.Meaning.Decimal.{decimal_of}
use Rattle.cj_geometry.specs.Meaning.Rule.{one, of_kind}

-- the bytes of a scalar
abbrev pub spelling : Tree → List ℕ
spelling (scalar k a) = a.spelling
spelling t = []

-- the reason for a fault of a number. A value that is no number has the wrong kind
abbrev pub fault_reason : DecimalFault → Reason
fault_reason NotANumber = WrongKind
fault_reason OutOfRange = NumberRange

-- a rule for a number in range; another spelling has the reason of its fault
abbrev pub value_findings : (Number → List Finding) → Tree → Result Number DecimalFault → List Finding
value_findings rule t (Ok v) = rule v
value_findings rule t (Err e) = one (fault_reason e) t

-- a value that is a number in range, and a rule for the number
abbrev pub of_number : (Number → List Finding) → Tree → List Finding
of_number rule t = of_kind is_number (λ u. value_findings rule u (decimal_of (spelling u))) t

-- a rule for a whole number; another number has a finding
abbrev pub whole_findings : (ℤ → List Finding) → Tree → Option ℤ → List Finding
whole_findings rule t (Some w) = rule w
whole_findings rule t None = one NotWhole t

-- a value that is a whole number in range, and a rule for the number
abbrev pub of_whole : (ℤ → List Finding) → Tree → List Finding
of_whole rule t = of_number (λ v. whole_findings rule t (as_whole v)) t

-- a number in range (RULES, numbers)
abbrev pub number : Tree → List Finding
number t = of_number (λ v. []) t

-- a whole number (RULES, numbers)
abbrev pub whole_number : Tree → List Finding
whole_number t = of_whole (λ w. []) t

-- the count is known, and the whole number is below 0 or not below the count. If the count is not known, no number is
-- outside, not even one below 0
abbrev pub is_outside : Option ℕ → ℤ → Bool
is_outside None w = false
is_outside (Some n) (pos k) = not (nat_lt k n)
is_outside (Some n) (negsuc k) = true

-- an index: a whole number that, if the count is known, is from 0 on and below the count (RULES, terms)
abbrev pub index : Reason → Option ℕ → Tree → List Finding
index reason count t = of_whole (λ w. cond (is_outside count w) (one reason t) []) t

-- ---- values

-- the value of a number in range; of any other value none
abbrev pub value_of : Tree → Option Number
value_of t = cond (is_number (kind_of t)) (result_ok (decimal_of (spelling t))) None

-- the value of a number that is in range and whole
abbrev pub whole_of : Tree → Option ℤ
whole_of t = option_and_then as_whole (value_of t)
