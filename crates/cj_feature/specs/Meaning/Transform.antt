-- The transform of a header: its numbers (RULES, headers, 4, and queries).
use Rattle.std.specs.Prelude.{ℕ, List, map, get_or, ℤ, Option, None, option_map, codes}
use Rattle.std.specs.Str.{chars}
use Rattle.cj_spans.specs.Meaning.Tree.{Tree}
use Rattle.cj_spans.specs.Meaning.Parts.{member_of, items_if, member_if}
use Rattle.cj_decimal.specs.Meaning.Number.{Number, units_of}
use Rattle.cj_geometry.specs.Meaning.Numbers.{value_of}

-- the values of the items of a member of the transform
abbrev pub transform_values : List ℕ → Tree → List (Option Number)
transform_values name t = map value_of (items_if (member_if name (member_of (chars (codes "transform")) t)))

-- its number for an axis in units of 10^-18, if there is one: 0 is x, 1 is y, and 2 is z
abbrev pub units_at : List ℕ → Tree → ℕ → Option ℤ
units_at name t axis = option_map units_of (get_or (transform_values name t) axis None)
