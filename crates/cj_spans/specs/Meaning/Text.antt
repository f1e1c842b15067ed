-- The texts of strings (RFC 8259, section 7; RULES, texts): the code points between the quotes, with the escapes
-- undone. An escaped surrogate that is in no pair is a code point of its own.
use Rattle.std.specs.Prelude.{ℕ, zero, suc, ◌+◌, ◌-◌, ◌*◌, List, [], ◌∷◌, length, drop, get_or, slice_range, Bool, cond}
use Rattle.std.specs.Prelude.{◌&&◌, nat_eq}
use Rattle.std.specs.Cmp.Lexicographic.{pointwise}
use Rattle.std.specs.Str.{chars}
use Rattle.std.specs.Char.{digit_value}
use Rattle.std.specs.Char.Utf16.{is_high_surrogate, is_low_surrogate, surrogate_pair_char}
use Rattle.cj_spans.specs.Meaning.Signs.{backslash, backspace, carriage_return, form_feed, newline, small_b, small_f}
use Rattle.cj_spans.specs.Meaning.Signs.{small_n, small_r, small_t, small_u, tab}

-- the character at a place, or 0 past the end
abbrev pub char_of : List ℕ → ℕ → ℕ
char_of cs k = get_or cs k 0

-- the number of the first four characters, as hexadecimal digits
abbrev pub four_digits : List ℕ → ℕ
four_digits cs = ((digit_value (char_of cs 0) * 16 + digit_value (char_of cs 1)) * 16 + digit_value (char_of cs 2)) * 16
    + digit_value (char_of cs 3)

-- what a letter after a backslash stands for: `b` `f` `n` `r` `t` for control characters, any other for itself
abbrev pub escaped : ℕ → ℕ
escaped c =
    cond (nat_eq c small_b) backspace (cond (nat_eq c small_f) form_feed (cond (nat_eq c small_n) newline
    (cond (nat_eq c small_r) carriage_return (cond (nat_eq c small_t) tab c))))

-- the first character is a backslash
abbrev pub is_escaped : List ℕ → Bool
is_escaped cs = nat_eq (char_of cs 0) backslash

-- the first characters are a backslash and a `u`
abbrev pub is_unicode : List ℕ → Bool
is_unicode cs = is_escaped cs && nat_eq (char_of cs 1) small_u

-- the UTF-16 unit of an escape: a backslash, a `u` and four digits
abbrev pub unit : List ℕ → ℕ
unit cs = four_digits (drop 2 cs)

-- the first characters are an escaped high surrogate and, right after it, an escaped low one
abbrev pub is_pair : List ℕ → Bool
is_pair cs = is_unicode cs && is_high_surrogate (unit cs) && is_unicode (drop 6 cs)
    && is_low_surrogate (unit (drop 6 cs))

-- the first code point
unfoldable pub first_code_point : List ℕ → ℕ
first_code_point cs = cond (is_pair cs) (surrogate_pair_char (unit cs) (unit (drop 6 cs)))
    (cond (is_unicode cs) (unit cs) (cond (is_escaped cs) (escaped (char_of cs 1)) (char_of cs 0)))

-- how many characters spell it
unfoldable pub first_width : List ℕ → ℕ
first_width cs = cond (is_pair cs) 12 (cond (is_unicode cs) 6 (cond (is_escaped cs) 2 1))

-- the code points of the characters from the n-th on
unfoldable pub code_points_after : ℕ → List ℕ → List ℕ
code_points_after n [] = []
code_points_after zero (c ∷ cs) = first_code_point (c ∷ cs) ∷ code_points_after (first_width (c ∷ cs) - 1) cs
code_points_after (suc n) (c ∷ cs) = code_points_after n cs

-- the bytes between the quotes
abbrev pub body_of : List ℕ → List ℕ
body_of s = slice_range s 1 (length s - 1)

-- the text of the spelling of a string. The law `one_text` says that the grammar gives this text and no other
unfoldable pub text : List ℕ → List ℕ
text s = code_points_after 0 (chars (body_of s))

-- whether two texts are the same
abbrev pub are_same : List ℕ → List ℕ → Bool
are_same = pointwise nat_eq
