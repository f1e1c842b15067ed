-- The limit of the stack, in the list of limits that the system writes for a process.
use Rattle.std.specs.Prelude.{◌≡◌, ℕ, List, Option, Some, None, MatchOption, codes, drop, option_map}
use Rattle.std.specs.Borrow.{Bor}
use Rattle.std.specs.Str.Iter.{split_whitespace_rest, split_whitespace_steps}
use Rattle.std.specs.Str.Pattern.{FindsText}
use Rattle.std.specs.declared.str.SplitWhitespace.{SplitWhitespace}
use Rattle.cityseq_command.specs.Words.{IsNumeral64, number_in}

-- what stands after the first place of a name in a text, if the text has the name
abbrev pub IsAfter : List ℕ → List ℕ → Option (List ℕ) → Type 0
IsAfter name text after = (place : Option (ℕ × ℕ)) × FindsText name text place
    × (after ≡ option_map (λ p. drop p.1 text) place)

-- the first word of a text, up to white space, if the text has a word
abbrev pub IsFirstWord : List ℕ → Option (Bor (List ℕ)) → Type 0
IsFirstWord text word = (before : SplitWhitespace) × (after : SplitWhitespace)
    × (split_whitespace_rest before ≡ text) × split_whitespace_steps before word after

-- the number of 64 bits that a word spells, if it spells one
abbrev pub IsSpelled : List ℕ → Option ℕ → Type 0
IsSpelled word n = MatchOption n (¬ (IsNumeral64 word)) (λ v. IsNumeral64 word × (v ≡ number_in word))

-- the number that the first word of a text spells, if the text has a word and it spells one
abbrev pub IsFirstNumber : List ℕ → Option ℕ → Type 0
IsFirstNumber text n = (word : Option (Bor (List ℕ))) × IsFirstWord text word
    × MatchOption word (n ≡ None) (λ w. IsSpelled w.now n)

-- the soft limit of the stack in a list of limits, if it is there and a number: the number after its name
abbrev pub IsStackLimit : List ℕ → Option ℕ → Type 0
IsStackLimit limits n = (after : Option (List ℕ)) × IsAfter (codes "Max stack size") limits after
    × MatchOption after (n ≡ None) (λ columns. IsFirstNumber columns n)
