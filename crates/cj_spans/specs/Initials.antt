-- Names that begin with characters of different slots, the numbers below 32.
use Rattle.std.specs.Prelude.{ℕ, List, [], ◌∷◌, Option, Some, None, option_and_then, ◌%◌, replicate, slice_set, get_or}
use Rattle.std.specs.Prelude.{Bool, true, false, cond}
use Rattle.cj_spans.specs.Meaning.Tree.{Tree}
use Rattle.cj_spans.specs.Meaning.Parts.{text_of}

-- the first of a list
abbrev pub head : List ℕ → Option ℕ
head [] = None
head (c ∷ cs) = Some c

-- the first code point of the text; none where there is no text or it is empty
abbrev pub first_code_of : Tree → Option ℕ
first_code_of t = option_and_then head (text_of t)

-- the slot of a first character was free, and so were those of the rest once it is taken
abbrev pub then_apart : Option ℕ → List Bool → (List Bool → Bool) → Bool
then_apart None taken rest = false
then_apart (Some c) taken rest = cond (get_or taken (c % 32) false) false (rest (slice_set taken (c % 32) true))

-- the first characters of these names have different slots, and all were free
abbrev pub are_apart : List Bool → List (Tree × Tree) → Bool
are_apart taken [] = true
are_apart taken (m ∷ ms) = then_apart (first_code_of m.0) taken (λ more. are_apart more ms)

-- the first characters of these names have different slots
abbrev pub begin_apart : List (Tree × Tree) → Bool
begin_apart ms = are_apart (replicate 32 false) ms
