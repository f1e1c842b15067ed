-- What is tallied of features: types of city objects, classes of LoDs, and numbers of vertices.
use Rattle.std.specs.Prelude.{◌≡◌, ℕ, ◌-◌, ◌^◌, List, [], length, min, if◌then◌else◌, ◌&&◌, Option, Some, None, ℤ, ◌≤ℤ◌}
use Rattle.std.specs.Prelude.{map, option_and_then, nat_eq, nat_le, All, Contains, codes}
use Rattle.std.specs.List.{filter, flat_map}
use Rattle.cj_spans.specs.Meaning.Tree.{Tree}
use Rattle.std.specs.Str.{chars}
use Rattle.cj_spans.specs.Initials.{first_code_of}
use Rattle.cj_spans.specs.Meaning.Parts.{member_of}
use Rattle.cj_geometry.specs.Meaning.Lod.{lod}
use Rattle.cj_geometry.specs.Meaning.ObjectTypes.{ObjectRow}
use Rattle.cj_geometry.specs.ObjectTypes.{type_count}
use Rattle.cj_feature.specs.Meaning.Feature.{templates_of}
use Rattle.cj_feature.specs.Meaning.CityObject.{type_row, object_geometries}
use Rattle.cj_feature.specs.Axes.{number_on}
use Rattle.cj_stream.specs.Meaning.Criteria.{objects_of, vertices_of}
use Rattle.cj_stream.specs.Items.{Item}

-- ---- counts

-- a count, up to the greatest u64
abbrev pub capped : ℕ → ℕ
capped n = min n (2 ^ 64 - 1)

-- how often a number is among some
abbrev pub how_often : ℕ → List ℕ → ℕ
how_often n ns = length (filter (nat_eq n) ns)

-- ---- types of city objects

-- how many counts there are: one for each row of the table of types, and a last one for the types of extensions
abbrev pub slot_count : ℕ
slot_count = 34

-- the number of a row; that of the last count where there is none, as for a type of an extension
abbrev pub row_number : Option ObjectRow → ℕ
row_number None = type_count
row_number (Some r) = r.number

-- the numbers of the types of a feature's city objects
abbrev pub type_numbers : Tree → List ℕ
type_numbers t = map (λ m. row_number (type_row m.1)) (objects_of t)

-- ---- classes of LoDs

-- how many classes there are
abbrev pub class_count : ℕ
class_count = 6

-- the class of a first character: 0 to 4 for `0` to `4`; 5, other, for any other one and for none
abbrev pub class_by : Option ℕ → ℕ
class_by None = 5
class_by (Some code) = if nat_le 48 code && nat_le code 52 then code - 48 else 5

-- the class of an LoD, if there is one
abbrev pub class_of : Option Tree → ℕ
class_of t = class_by (option_and_then first_code_of t)

-- the classes of the LoDs of a feature's geometries; an instance has that of its template, which the header has
abbrev pub lod_classes : Tree → Tree → List ℕ
lod_classes header t = map (λ g. class_of (lod (templates_of header) g)) (flat_map object_geometries (objects_of t))

-- the classes of the LoDs that geometries have themselves
abbrev pub own_classes : List Tree → List ℕ
own_classes gs = map (λ g. class_of (member_of (chars (codes "lod")) g)) gs

-- ---- numbers of vertices

-- the numbers of a feature's vertices on an axis
abbrev pub numbers_on : ℕ → Tree → List ℤ
numbers_on axis t = map (number_on axis) (vertices_of t)

-- the least and the greatest of some numbers, or none where there are none
abbrev pub IsRange : List ℤ → Option (ℤ × ℤ) → Type 0
IsRange ns None = ns ≡ []
IsRange ns (Some ends) = Contains ns ends.0 × Contains ns ends.1 × All (λ n. (ends.0 ≤ℤ n) × (n ≤ℤ ends.1)) ns

-- ---- items

-- what a feature of this tree has, beside the tree of its header; a header has none
abbrev pub beside : {X : Type 0} → (Tree → Tree → List X) → Option Tree → Tree → List X
beside part None t = []
beside part (Some header) t = part header t

-- what the features among some items have
abbrev pub over_features : {X : Type 0} → (Tree → Tree → List X) → List Item → List X
over_features part is = flat_map (λ i. beside part i.header i.tree) is
