-- Walks over a feature: what of its tree is left.
use Rattle.std.specs.Prelude.{◌≡◌, ℕ, List, ◌++◌, map, Option, ℤ, IfSome}
use Rattle.std.specs.List.{flat_map}
use Rattle.std.specs.Iterator.{YieldsFirstBy}
use Rattle.cj_spans.specs.declared.node.Node.{Node}
use Rattle.cj_spans.specs.Meaning.Tree.{Tree}
use Rattle.cj_spans.specs.View.{tree, line_of, items_left, members_left, members_line}
use Rattle.cj_geometry.specs.ListSteps.{left_of}
use Rattle.cj_feature.specs.declared.feature.city_object.CityObject.{CityObject}
use Rattle.cj_feature.specs.declared.feature.city_object.Objects.{Objects}
use Rattle.cj_feature.specs.declared.feature.coordinates.Coordinates.{Coordinates}
use Rattle.cj_feature.specs.declared.feature.geometries.Geometries.{Geometries}
use Rattle.cj_feature.specs.declared.feature.vertices.Vertices.{Vertices}
use Rattle.cj_feature.specs.Meaning.CityObject.{vertex_of, object_geometries}
use Rattle.cj_feature.specs.Axes.{number_on}

-- ---- city objects

-- a city object shows its name and its value
abbrev pub object_trees : CityObject → Tree × Tree
object_trees o = (tree o.id, tree o.node)

unfoldable pub objects_left : Objects → List (Tree × Tree)
objects_left w = members_left w.members

unfoldable pub objects_line : Objects → List ℕ
objects_line w = members_line w.members

-- a step gives the next city object
abbrev pub YieldsObject : Objects → Option CityObject → Objects → Type 0
YieldsObject s r t = YieldsFirstBy object_trees objects_left s r t × (objects_line t ≡ objects_line s)
    × IfSome r (λ o. (line_of o.id ≡ objects_line s) × (line_of o.node ≡ objects_line s))

-- ---- geometries

unfoldable pub geometries_left : Geometries → List Tree
geometries_left w = left_of w.items ++ flat_map object_geometries (members_left w.objects)

unfoldable pub geometries_line : Geometries → List ℕ
geometries_line w = members_line w.objects

-- a step gives the next geometry
abbrev pub YieldsGeometry : Geometries → Option Node → Geometries → Type 0
YieldsGeometry s r t = YieldsFirstBy tree geometries_left s r t × (geometries_line t ≡ geometries_line s)
    × IfSome r (λ n. line_of n ≡ geometries_line s)

-- ---- vertices

unfoldable pub vertices_left : Vertices → List (List (Option ℤ))
vertices_left w = map vertex_of (items_left w.items)

-- their numbers on the axis of the walk
unfoldable pub coordinates_left : Coordinates → List ℤ
coordinates_left w = map (number_on w.axis) (map vertex_of (items_left w.items))
