-- The bytes of JSON's signs and letters (RFC 8259), by name.
use Rattle.std.specs.Prelude.{ℕ, List, codes, get_or}

-- the byte of a sign, which is a text of one character of US-ASCII
abbrev pub sign : List ℕ → ℕ
sign text = get_or text 0 0

abbrev pub quote : ℕ
quote = sign (codes "\"")

abbrev pub backslash : ℕ
backslash = sign (codes "\\")

abbrev pub slash : ℕ
slash = sign (codes "/")

abbrev pub left_bracket : ℕ
left_bracket = sign (codes "[")

abbrev pub right_bracket : ℕ
right_bracket = sign (codes "]")

abbrev pub left_brace : ℕ
left_brace = sign (codes "{")

abbrev pub right_brace : ℕ
right_brace = sign (codes "}")

abbrev pub comma : ℕ
comma = sign (codes ",")

abbrev pub colon : ℕ
colon = sign (codes ":")

abbrev pub minus_sign : ℕ
minus_sign = sign (codes "-")

abbrev pub plus_sign : ℕ
plus_sign = sign (codes "+")

abbrev pub decimal_point : ℕ
decimal_point = sign (codes ".")

abbrev pub space : ℕ
space = sign (codes " ")

abbrev pub digit_0 : ℕ
digit_0 = sign (codes "0")

abbrev pub digit_1 : ℕ
digit_1 = sign (codes "1")

abbrev pub digit_9 : ℕ
digit_9 = sign (codes "9")

abbrev pub small_a : ℕ
small_a = sign (codes "a")

abbrev pub small_b : ℕ
small_b = sign (codes "b")

abbrev pub small_e : ℕ
small_e = sign (codes "e")

abbrev pub small_f : ℕ
small_f = sign (codes "f")

abbrev pub small_n : ℕ
small_n = sign (codes "n")

abbrev pub small_r : ℕ
small_r = sign (codes "r")

abbrev pub small_t : ℕ
small_t = sign (codes "t")

abbrev pub small_u : ℕ
small_u = sign (codes "u")

abbrev pub capital_a : ℕ
capital_a = sign (codes "A")

abbrev pub capital_e : ℕ
capital_e = sign (codes "E")

abbrev pub capital_f : ℕ
capital_f = sign (codes "F")

-- ---- control characters, by their numbers in US-ASCII

abbrev pub backspace : ℕ
backspace = 8

abbrev pub tab : ℕ
tab = 9

abbrev pub newline : ℕ
newline = 10

abbrev pub form_feed : ℕ
form_feed = 12

abbrev pub carriage_return : ℕ
carriage_return = 13
