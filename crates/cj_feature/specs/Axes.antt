-- Axes in code: maps and numbers, where 0 stands for a number that is not there. The laws of their calls say that all
-- are there.
use Rattle.std.specs.Prelude.{◌≡◌, ℕ, ◌<◌, List, [], ◌∷◌, length, get_or, unwrap_or, ℤ, pos, Option, Some, None, codes}
use Rattle.std.specs.Option.{option_map_or}
use Rattle.std.specs.Str.{chars}
use Rattle.cj_spans.specs.Meaning.Tree.{Tree}
use Rattle.cj_decimal.specs.Meaning.Number.{Number, units_of}
use Rattle.cj_decimal.specs.Meaning.Affine.{AffineMap}
use Rattle.cj_feature.specs.Meaning.Transform.{transform_values, units_at}

-- a value in units of 10^-18, or 0
abbrev pub units_in : Option Number → ℤ
units_in o = option_map_or units_of o (pos 0)

-- the map of an axis, by the values of its scale and its translation
abbrev pub map_of : Option Number → Option Number → AffineMap
map_of scale shift = record { scale = units_in scale; shift = units_in shift }

-- the maps of the first two axes, or none if a member has fewer than two items
abbrev pub first_maps : List (Option Number) → List (Option Number) → List AffineMap
first_maps (a ∷ b ∷ scales) (c ∷ d ∷ shifts) = map_of a c ∷ map_of b d ∷ []
first_maps scales shifts = []

abbrev pub maps_of : Tree → List AffineMap
maps_of t = first_maps (transform_values (chars (codes "scale")) t) (transform_values (chars (codes "translate")) t)

-- the maps are of numbers that the transform has
pub record AreThere (t : Tree) (maps : List AffineMap) : Type 0 where
  pub scale : (axis : ℕ) (d : AffineMap) → axis < length maps
      → units_at (chars (codes "scale")) t axis ≡ Some (get_or maps axis d).scale
  pub shift : (axis : ℕ) (d : AffineMap) → axis < length maps
      → units_at (chars (codes "translate")) t axis ≡ Some (get_or maps axis d).shift

-- the number of a vertex on an axis, or 0: 0 is x, 1 is y, and 2 is z
abbrev pub number_on : ℕ → List (Option ℤ) → ℤ
number_on axis v = unwrap_or (get_or v axis None) (pos 0)
