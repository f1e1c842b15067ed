-- Spellings of few digits, and bytes that begin as a number does.
use Rattle.std.specs.Prelude.{◌≡◌, ℕ, ◌+◌, ◌≤◌, List, ◌∷◌, length, ◌⊎◌, ◌<◌, get_or}
use Rattle.cj_decimal.specs.Meaning.Signs.{digit_0, minus_sign}
use Rattle.cj_decimal.specs.Meaning.Spelling.{IsInt, SpellsNumber}

-- an int of at most 18 digits, and nothing else
abbrev pub IsFewDigits : List ℕ → Type 0
IsFewDigits s = IsInt s × (length s ≤ 18)

-- the same, or a minus and the same
abbrev pub IsFewSigned : List ℕ → Type 0
IsFewSigned s = IsFewDigits s ⊎ ((digits : List ℕ) × (s ≡ minus_sign ∷ digits) × IsFewDigits digits)

-- if the first byte is from `-` to `?`, the bytes are a number of JSON. That is so for each value of JSON, since all
-- others begin with a quote, a letter, `[` or `{`
abbrev pub IsNumberIfBegun : List ℕ → Type 0
IsNumberIfBegun s = minus_sign ≤ get_or s 0 0 → get_or s 0 0 < digit_0 + 16 → SpellsNumber s
