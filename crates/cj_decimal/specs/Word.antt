-- Bytes as one number, and what is read by it.
use Rattle.std.specs.Prelude.{◌≡◌, ℕ, ◌+◌, ◌-◌, ◌*◌, ◌<◌, ◌≤◌, List, [], ◌∷◌, length, map, ◌^◌}
use Rattle.cj_decimal.specs.Meaning.Signs.{digit_0}
use Rattle.cj_decimal.specs.Meaning.Reading.{digits_value}

-- bytes as one number, of which the first is least
abbrev pub little_endian : List ℕ → ℕ
little_endian [] = 0
little_endian (b ∷ s) = b + 256 * little_endian s

-- all of them are below n
abbrev pub AllBelow : ℕ → List ℕ → Type 0
AllBelow n [] = Unit {0}
AllBelow n (b ∷ s) = (b < n) × AllBelow n s

-- digits weighed by the powers of a number, the first one most
unfoldable pub weighed : ℕ → List ℕ → ℕ
weighed n [] = 0
weighed n (d ∷ s) = n ^ length s * d + weighed n s

-- eight digits that are below this word as bytes, the first one greatest, spell a number below n
abbrev pub IsBoundWord : ℕ → ℕ → Type 0
IsBoundWord word n = (s : List ℕ) → length s ≡ 8 → AllBelow 10 s → weighed 256 s < word
    → digits_value (map (λ d. d + digit_0) s) < n

-- the word has eight digits as bytes, the first one greatest, and they spell the number
abbrev pub IsWordOf : ℕ → ℕ → Type 0
IsWordOf word n = (s : List ℕ) × (length s ≡ 8) × AllBelow 10 s × (word ≡ weighed 256 s)
    × (n ≡ digits_value (map (λ d. d + digit_0) s))

-- the word of a count: that of its eight digits, or the greatest word where it has more
pub record IsCountWord (word n : ℕ) : Type 0 where
  pub few : n < 10 ^ 8 → IsWordOf word n
  pub more : 10 ^ 8 ≤ n → word ≡ 2 ^ 64 - 1
