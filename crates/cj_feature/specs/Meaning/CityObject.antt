-- What a query asks of city objects and vertices: a type, geometries, and the numbers of a vertex (RULES, queries).
use Rattle.std.specs.Prelude.{List, map, Option, ℤ, option_and_then, codes}
use Rattle.std.specs.Str.{chars}
use Rattle.cj_spans.specs.Meaning.Tree.{Tree}
use Rattle.cj_spans.specs.Meaning.Parts.{items_of, member_of, items_if}
use Rattle.cj_geometry.specs.Meaning.ObjectTypes.{ObjectRow, row_of}
use Rattle.cj_geometry.specs.Meaning.Numbers.{whole_of}

-- the row of a city object's type
abbrev pub type_row : Tree → Option ObjectRow
type_row o = option_and_then row_of (member_of (chars (codes "type")) o)

-- the whole numbers of a vertex
abbrev pub vertex_of : Tree → List (Option ℤ)
vertex_of t = map whole_of (items_of t)

-- the geometries of a city object
abbrev pub object_geometries : Tree × Tree → List Tree
object_geometries m = items_if (member_of (chars (codes "geometry")) m.1)
