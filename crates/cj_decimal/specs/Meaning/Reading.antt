-- What a spelling of a number says: its sign, digits, point and exponent, from left to right (RFC 8259, section 6).
use Rattle.std.specs.Prelude.{ℕ, ◌+◌, ◌-◌, ◌*◌, List, [], ◌∷◌, Bool, ℤ, pos, drop, true, false}
use Rattle.std.specs.Prelude.{cond, ◌&&◌, ◌||◌, not, nat_eq}
use Rattle.std.specs.Char.{is_ascii_digit}
use Rattle.cj_decimal.specs.Meaning.Number.{signed}
use Rattle.cj_decimal.specs.Meaning.Signs.{digit_0, capital_e, decimal_point, minus_sign, plus_sign, small_e}

-- the number that digits spell after others that spell n
abbrev pub value_after : ℕ → List ℕ → ℕ
value_after n [] = n
value_after n (b ∷ s) = value_after (10 * n + (b - digit_0)) s

-- the number that digits spell
abbrev pub digits_value : List ℕ → ℕ
digits_value s = value_after 0 s

-- what a spelling says: the sign, the digits before and after the point, and the exponent
pub record Written : Type 0 where
  pub negative : Bool
  pub int : List ℕ
  pub frac : List ℕ
  pub exponent : ℤ

-- the digits that a list begins with
unfoldable pub digits_front : List ℕ → List ℕ
digits_front [] = []
digits_front (b ∷ s) = cond (is_ascii_digit b) (b ∷ digits_front s) []

-- what comes after those digits
unfoldable pub digits_rest : List ℕ → List ℕ
digits_rest [] = []
digits_rest (b ∷ s) = cond (is_ascii_digit b) (digits_rest s) (b ∷ s)

-- the list begins with this byte
unfoldable pub begins : ℕ → List ℕ → Bool
begins c [] = false
begins c (b ∷ s) = nat_eq b c

unfoldable pub is_empty : List ℕ → Bool
is_empty [] = true
is_empty (b ∷ s) = false

-- the first byte is a digit
unfoldable pub begins_digit : List ℕ → Bool
begins_digit [] = false
begins_digit (b ∷ s) = is_ascii_digit b

-- a spelling without its minus sign
unfoldable pub body : List ℕ → List ℕ
body s = cond (begins minus_sign s) (drop 1 s) s

-- these digits are an int: `0` alone, or a first digit that is not `0`
unfoldable pub is_int : List ℕ → Bool
is_int [] = false
is_int (b ∷ s) = not (nat_eq b digit_0) || is_empty s

-- after the int comes a point and a digit, or no point
unfoldable pub is_frac : List ℕ → Bool
is_frac r = not (begins decimal_point r) || begins_digit (drop 1 r)

-- the digits of the fraction, and what comes after them
unfoldable pub frac_digits : List ℕ → List ℕ
frac_digits r = cond (begins decimal_point r) (digits_front (drop 1 r)) []

unfoldable pub after_frac : List ℕ → List ℕ
after_frac r = cond (begins decimal_point r) (digits_rest (drop 1 r)) r

-- what comes after the `e` of an exponent, without its sign
unfoldable pub exp_digits : List ℕ → List ℕ
exp_digits t = cond (begins minus_sign t || begins plus_sign t) (drop 1 t) t

-- these bytes are one digit or more
unfoldable pub is_whole_digits : List ℕ → Bool
is_whole_digits t = begins_digit t && is_empty (digits_rest t)

-- the rest of a spelling is an exponent, or nothing
unfoldable pub is_exp : List ℕ → Bool
is_exp [] = true
is_exp (b ∷ t) = (nat_eq b small_e || nat_eq b capital_e) && is_whole_digits (exp_digits t)

-- the value of the exponent; 0 if there is none
unfoldable pub exp_value : List ℕ → ℤ
exp_value [] = pos 0
exp_value (b ∷ t) = signed (begins minus_sign t) (digits_value (exp_digits t))

-- the bytes are a number
abbrev pub is_number : List ℕ → Bool
is_number s = is_int (digits_front (body s))
    && (is_frac (digits_rest (body s)) && is_exp (after_frac (digits_rest (body s))))

-- what a number says
abbrev pub written_of : List ℕ → Written
written_of s = record {
  negative = begins minus_sign s;
  int = digits_front (body s);
  frac = frac_digits (digits_rest (body s));
  exponent = exp_value (after_frac (digits_rest (body s)));
}
