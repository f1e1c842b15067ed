-- What a valid feature's vertices have: three whole numbers.
use Rattle.std.specs.Prelude.{List, [], ◌∷◌, Bool, true, false, Option, Some, None, ℤ}
use Rattle.cj_spans.specs.Meaning.Tree.{Tree}
use Rattle.cj_feature.specs.Meaning.CityObject.{vertex_of}

-- they are one, two and three
abbrev pub are_one : List (Option ℤ) → Bool
are_one [] = false
are_one (None ∷ ws) = false
are_one (Some x ∷ []) = true
are_one (Some x ∷ w ∷ ws) = false

abbrev pub are_two : List (Option ℤ) → Bool
are_two [] = false
are_two (None ∷ ws) = false
are_two (Some x ∷ ws) = are_one ws

abbrev pub are_three : List (Option ℤ) → Bool
are_three [] = false
are_three (None ∷ ws) = false
are_three (Some x ∷ ws) = are_two ws

abbrev pub is_vertex : Tree → Bool
is_vertex t = are_three (vertex_of t)

-- the first of these is a whole number
abbrev pub begins_whole : List (Option ℤ) → Bool
begins_whole [] = false
begins_whole (None ∷ ws) = false
begins_whole (Some w ∷ ws) = true
