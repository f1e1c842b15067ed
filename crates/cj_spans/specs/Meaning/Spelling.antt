-- The spellings of RFC 8259: white space (section 2), literals (3), numbers (6) and strings (7), over bytes.
use Rattle.std.specs.Prelude.{◌≡◌, ℕ, ◌≤◌, List, [], ◌∷◌, ◌++◌, codes, Bool, true, ◌||◌, ◌&&◌, nat_eq, nat_le, not, ◌⊎◌}
use Rattle.cj_spans.specs.declared.token.Kind.{Kind}
use Rattle.cj_spans.specs.declared.token.Kind.TheVariants.{Null, Truth, Number, Text, Array, Object}
use Rattle.cj_spans.specs.Meaning.Signs.{backslash, capital_a, capital_e, capital_f, carriage_return, decimal_point}
use Rattle.cj_spans.specs.Meaning.Signs.{digit_0, digit_1, digit_9, minus_sign, newline, plus_sign, quote, slash}
use Rattle.cj_spans.specs.Meaning.Signs.{small_a, small_b, small_e, small_f, small_n, small_r, small_t, small_u, space}
use Rattle.cj_spans.specs.Meaning.Signs.{tab}

-- space, tab, LF or CR
abbrev pub is_white_space : ℕ → Bool
is_white_space b = nat_eq b space || nat_eq b tab || nat_eq b newline || nat_eq b carriage_return

-- one of the bytes `0` to `9`
abbrev pub IsDigit : ℕ → Type 0
IsDigit b = (digit_0 ≤ b) × (b ≤ digit_9)

-- digits alone, perhaps none
abbrev pub AllDigits : List ℕ → Type 0
AllDigits [] = Unit {0}
AllDigits (b ∷ s) = IsDigit b × AllDigits s

-- one digit or more
abbrev pub IsDigits : List ℕ → Type 0
IsDigits [] = ⊥
IsDigits (b ∷ s) = IsDigit b × AllDigits s

-- minus: `-` or nothing
abbrev pub IsMinus : List ℕ → Type 0
IsMinus s = (s ≡ []) ⊎ (s ≡ minus_sign ∷ [])

-- int: `0` alone, or digits of which the first is not `0`
abbrev pub IsInt : List ℕ → Type 0
IsInt [] = ⊥
IsInt (b ∷ s) = ((b ≡ digit_0) × (s ≡ [])) ⊎ ((digit_1 ≤ b) × (b ≤ digit_9) × AllDigits s)

-- frac: nothing, or `.` and one digit or more
abbrev pub IsFrac : List ℕ → Type 0
IsFrac [] = Unit {0}
IsFrac (b ∷ s) = (b ≡ decimal_point) × IsDigits s

-- the sign of an exponent: nothing, `+` or `-`
abbrev pub IsExpSign : List ℕ → Type 0
IsExpSign s = (s ≡ []) ⊎ ((s ≡ plus_sign ∷ []) ⊎ (s ≡ minus_sign ∷ []))

-- a sign and one digit or more
pub record IsExpRest (s : List ℕ) : Type 0 where
  pub sign : List ℕ
  pub digits : List ℕ
  pub sign_is : IsExpSign sign
  pub digits_are : IsDigits digits
  pub joined : s ≡ sign ++ digits

-- exp: nothing, or `e` or `E`, a sign, and one digit or more
abbrev pub IsExp : List ℕ → Type 0
IsExp [] = Unit {0}
IsExp (b ∷ s) = ((b ≡ small_e) ⊎ (b ≡ capital_e)) × IsExpRest s

-- a number: minus, int, frac and exp
pub record IsNumber (s : List ℕ) : Type 0 where
  pub minus : List ℕ
  pub int : List ℕ
  pub frac : List ℕ
  pub exp : List ℕ
  pub minus_is : IsMinus minus
  pub int_is : IsInt int
  pub frac_is : IsFrac frac
  pub exp_is : IsExp exp
  pub joined : s ≡ minus ++ (int ++ (frac ++ exp))

-- a hexadecimal digit of either case
abbrev pub is_hex : ℕ → Bool
is_hex b = (nat_le digit_0 b && nat_le b digit_9) || (nat_le capital_a b && nat_le b capital_f)
    || (nat_le small_a b && nat_le b small_f)

-- a byte of a string that stands for itself or is a part of a longer character: neither a control character, `"` nor
-- `\`
abbrev pub is_plain : ℕ → Bool
is_plain b = nat_le space b && (not (nat_eq b quote) && not (nat_eq b backslash))

-- what may follow a backslash, beside `u`: one of `"` `\` `/` `b` `f` `n` `r` `t`
abbrev pub is_escape : ℕ → Bool
is_escape b =
    nat_eq b quote || nat_eq b backslash || nat_eq b slash || nat_eq b small_b || nat_eq b small_f || nat_eq b small_n
    || nat_eq b small_r
    || nat_eq b small_t

-- what stands between the quotes: plain bytes, escapes, and `\u` with four hexadecimal digits
pub data IsBody : List ℕ → Type 0 where
  nothing : IsBody []
  plain : (b : ℕ) (s : List ℕ) → is_plain b ≡ true → IsBody s → IsBody (b ∷ s)
  escape : (b : ℕ) (s : List ℕ) → is_escape b ≡ true → IsBody s → IsBody (backslash ∷ b ∷ s)
  unicode : (h i j k : ℕ) (s : List ℕ) → is_hex h && is_hex i && is_hex j && is_hex k ≡ true → IsBody s
      → IsBody (backslash ∷ small_u ∷ h ∷ i ∷ j ∷ k ∷ s)

-- a string: a body between quotes
pub record IsString (s : List ℕ) : Type 0 where
  pub body : List ℕ
  pub body_is : IsBody body
  pub joined : s ≡ quote ∷ (body ++ quote ∷ [])

-- these bytes spell a scalar of the kind: a literal name, a number or a string
abbrev pub IsScalar : Kind → List ℕ → Type 0
IsScalar Null s = s ≡ codes "null"
IsScalar Truth s = (s ≡ codes "true") ⊎ (s ≡ codes "false")
IsScalar Number s = IsNumber s
IsScalar Text s = IsString s
IsScalar Array s = ⊥
IsScalar Object s = ⊥
