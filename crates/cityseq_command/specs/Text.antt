-- Lines of text that the program writes.
use Rattle.std.specs.Prelude.{ℕ, suc, zero, List, [], ◌∷◌, ◌++◌, decimal}
use Rattle.std.specs.List.{flat_map}
use Rattle.cj_spans.specs.Meaning.Signs.{newline, space}

-- a line: a name, and words after it, each behind a space
abbrev pub text_line : List ℕ → List (List ℕ) → List ℕ
text_line name words = name ++ flat_map (λ word. space ∷ word) words ++ newline ∷ []

-- a line with a count
abbrev pub count_line : List ℕ → ℕ → List ℕ
count_line name n = text_line name (decimal n ∷ [])

-- a line with the count of something among others of its kind; none where it is 0
abbrev pub counted : List ℕ → List ℕ → ℕ → List ℕ
counted kind name zero = []
counted kind name (suc n) = text_line kind (name ∷ decimal (suc n) ∷ [])
