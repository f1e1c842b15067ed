-- The numbers of RFC 8259, section 6, as a grammar, and the values of their spellings.
use Rattle.std.specs.Prelude.{◌≡◌, ℕ, ◌≤◌, List, [], ◌∷◌, ◌++◌, length, Bool, true, false, ◌⊎◌, ℤ, pos, ◌-ℤ◌, codes}
use Rattle.cj_decimal.specs.Meaning.Number.{Number, scaled, signed}
use Rattle.cj_decimal.specs.Meaning.Equality.{SameValue, IsNormal, IsInRange}
use Rattle.cj_decimal.specs.Meaning.Signs.{sign, capital_e, decimal_point, digit_0, minus_sign, plus_sign, small_e}
use Rattle.cj_decimal.specs.Meaning.Reading.{digits_value, Written}

abbrev pub digit_1 : ℕ
digit_1 = sign (codes "1")

abbrev pub digit_9 : ℕ
digit_9 = sign (codes "9")

-- one of the bytes `0` to `9`
abbrev pub IsDigit : ℕ → Type 0
IsDigit b = (digit_0 ≤ b) × (b ≤ digit_9)

-- digits alone, perhaps none
abbrev pub AllDigits : List ℕ → Type 0
AllDigits [] = Unit {0}
AllDigits (b ∷ s) = IsDigit b × AllDigits s

-- one digit or more
abbrev pub IsDigits : List ℕ → Type 0
IsDigits [] = ⊥
IsDigits (b ∷ s) = IsDigit b × AllDigits s

-- int: `0` alone, or digits of which the first is not `0`
abbrev pub IsInt : List ℕ → Type 0
IsInt [] = ⊥
IsInt (b ∷ s) = ((b ≡ digit_0) × (s ≡ [])) ⊎ ((digit_1 ≤ b) × (b ≤ digit_9) × AllDigits s)

-- minus: `-` where the number is negative, else nothing
abbrev pub IsMinus : Bool → List ℕ → Type 0
IsMinus true s = s ≡ minus_sign ∷ []
IsMinus false s = s ≡ []

-- frac: nothing, or `.` and one digit or more
abbrev pub IsFrac : List ℕ → List ℕ → Type 0
IsFrac digits s = ((digits ≡ []) × (s ≡ [])) ⊎ (IsDigits digits × (s ≡ decimal_point ∷ digits))

-- the sign of an exponent: `-` where it is negative, else `+` or nothing
abbrev pub IsExpSign : Bool → List ℕ → Type 0
IsExpSign true s = s ≡ minus_sign ∷ []
IsExpSign false s = (s ≡ []) ⊎ (s ≡ plus_sign ∷ [])

-- the parts of an exponent: `e` or `E`, a sign, and one digit or more
pub record ExpParts (e : ℤ) (s : List ℕ) : Type 0 where
  pub mark : ℕ
  pub negative : Bool
  pub sign : List ℕ
  pub digits : List ℕ
  pub mark_is : (mark ≡ small_e) ⊎ (mark ≡ capital_e)
  pub sign_is : IsExpSign negative sign
  pub digits_are : IsDigits digits
  pub joined : s ≡ mark ∷ (sign ++ digits)
  pub value : e ≡ signed negative (digits_value digits)

-- exp: nothing, which stands for 0, or an exponent's parts
abbrev pub IsExp : ℤ → List ℕ → Type 0
IsExp e s = ((e ≡ pos 0) × (s ≡ [])) ⊎ ExpParts e s

-- number: minus, int, frac and exp, one after another
pub record Spells (s : List ℕ) (n : Written) : Type 0 where
  pub minus : List ℕ
  pub fraction : List ℕ
  pub exp : List ℕ
  pub minus_is : IsMinus n.negative minus
  pub int_is : IsInt n.int
  pub frac_is : IsFrac n.frac fraction
  pub exp_is : IsExp n.exponent exp
  pub joined : s ≡ minus ++ (n.int ++ (fraction ++ exp))

-- s is a number of JSON
abbrev pub SpellsNumber : List ℕ → Type 0
SpellsNumber s = (n : Written) × Spells s n

-- the number that is written: all its digits, times ten to the exponent less the digits after the point
abbrev pub number_of : Written → Number
number_of n = scaled (signed n.negative (digits_value (n.int ++ n.frac))) (n.exponent -ℤ pos (length n.frac))

-- v is the value of the spelling s, in normal form
pub record IsValue (s : List ℕ) (v : Number) : Type 0 where
  pub written : Written
  pub spells : Spells s written
  pub same : SameValue (number_of written) v
  pub normal : IsNormal v

-- a number of JSON has a value, and one alone
pub record HasOneValue (s : List ℕ) : Type 0 where
  pub has : SpellsNumber s → (v : Number) × IsValue s v
  pub one : (v w : Number) → IsValue s v → IsValue s w → v ≡ w

-- s has a value in range
abbrev pub IsNumberInRange : List ℕ → Type 0
IsNumberInRange s = (v : Number) × IsValue s v × IsInRange v

-- s has a value, and it is out of range
abbrev pub IsNumberOutOfRange : List ℕ → Type 0
IsNumberOutOfRange s = (v : Number) × IsValue s v × (¬ IsInRange v)
