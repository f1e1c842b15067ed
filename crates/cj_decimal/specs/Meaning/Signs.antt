-- The bytes of a number's spelling (RFC 8259, section 6), by name.
use Rattle.std.specs.Prelude.{ℕ, List, codes, get_or}

-- the byte of a sign, which is a text of one character of US-ASCII
abbrev pub sign : List ℕ → ℕ
sign text = get_or text 0 0

abbrev pub minus_sign : ℕ
minus_sign = sign (codes "-")

abbrev pub plus_sign : ℕ
plus_sign = sign (codes "+")

abbrev pub decimal_point : ℕ
decimal_point = sign (codes ".")

abbrev pub digit_0 : ℕ
digit_0 = sign (codes "0")

abbrev pub small_e : ℕ
small_e = sign (codes "e")

abbrev pub capital_e : ℕ
capital_e = sign (codes "E")
