-- Where a tree and its parts stand in the line.
use Rattle.std.specs.Prelude.{ℕ, ◌<◌, List, [], ◌∷◌, slice_range, All, ⊤}
use Rattle.cj_spans.specs.Meaning.Tree.{Tree, scalar, array, object, start_of}

-- where a tree stops
abbrev pub stop_of : Tree → ℕ
stop_of (scalar k a) = a.stop
stop_of (array i j ts) = j
stop_of (object i j ms) = j

-- its bytes in the line
abbrev pub spelling_of : List ℕ → Tree → List ℕ
spelling_of line (scalar k a) = a.spelling
spelling_of line (array i j ts) = slice_range line i j
spelling_of line (object i j ms) = slice_range line i j

-- each name starts before those after it
abbrev pub AreNamesInOrder : List (Tree × Tree) → Type 0
AreNamesInOrder [] = ⊤
AreNamesInOrder (m ∷ ms) = All (λ (n : Tree × Tree). start_of m.0 < start_of n.0) ms × AreNamesInOrder ms

-- and each value starts before those after it
abbrev pub AreValuesInOrder : List (Tree × Tree) → Type 0
AreValuesInOrder [] = ⊤
AreValuesInOrder (m ∷ ms) = All (λ (n : Tree × Tree). start_of m.1 < start_of n.1) ms × AreValuesInOrder ms
