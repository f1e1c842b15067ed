-- What may be asked of features, and which features satisfy it.
use Rattle.std.specs.Prelude.{ℕ, List, Bool, true, false, ◌&&◌, Option, Some, None, is_some, ℤ, ◌+ℤ◌, ◌*ℤ◌, int_le, get_or, map, codes}
use Rattle.std.specs.List.{list_any, flat_map}
use Rattle.std.specs.Option.{option_map_or}
use Rattle.std.specs.Str.{chars}
use Rattle.cj_spans.specs.Meaning.Tree.{Tree}
use Rattle.cj_spans.specs.Meaning.Parts.{member_of, has_text, items_if, members_if}
use Rattle.cj_geometry.specs.Meaning.Lod.{lod}
use Rattle.cj_geometry.specs.Meaning.ObjectTypes.{ObjectRow}
use Rattle.cj_feature.specs.Meaning.Feature.{templates_of}
use Rattle.cj_feature.specs.Meaning.Transform.{units_at}
use Rattle.cj_feature.specs.Meaning.CityObject.{type_row, vertex_of, object_geometries}

-- a box in the plane, in units of 10^-18
pub record Box : Type 0 where
  pub min_x : ℤ
  pub min_y : ℤ
  pub max_x : ℤ
  pub max_y : ℤ

-- types of city objects: a flag for each row of their table, and the texts of types of extensions, which have no row
pub record ChosenTypes : Type 0 where
  pub known : List Bool
  pub extensions : List (List ℕ)

-- The parts that may be set: texts of ids, the types of city objects, texts of LoDs, and a box. Texts are in UTF-8.
pub record Criteria : Type 0 where
  pub ids : Option (List (List ℕ))
  pub types : Option ChosenTypes
  pub lods : Option (List (List ℕ))
  pub box : Option Box

-- a test of a part holds, or the part is not set
abbrev pub if_set : {X : Type 0} → (X → Bool) → Option X → Bool
if_set test part = option_map_or test part true

-- there is a value, and the test holds of it
abbrev pub there_is : {X : Type 0} → (X → Bool) → Option X → Bool
there_is test value = option_map_or test value false

-- the tree is one of these texts
abbrev pub is_one_of : List (List ℕ) → Tree → Bool
is_one_of texts t = list_any (λ s. has_text (chars s) t) texts

-- ---- ids, types and LoDs of a feature

-- its id is one of these
abbrev pub has_id : List (List ℕ) → Tree → Bool
has_id ids t = there_is (is_one_of ids) (member_of (chars (codes "id")) t)

-- its city objects, with their names
abbrev pub objects_of : Tree → List (Tree × Tree)
objects_of t = members_if (member_of (chars (codes "CityObjects")) t)

-- the type of a city object is one of these: its row is flagged; or it has no row, and is one of the texts
abbrev pub is_of_type : ChosenTypes → Tree → Bool
is_of_type types o = option_map_or (λ (r : ObjectRow). get_or types.known r.number false) (type_row o)
    (there_is (is_one_of types.extensions) (member_of (chars (codes "type")) o))

-- the type of some city object is one of these
abbrev pub has_type : ChosenTypes → Tree → Bool
has_type types t = list_any (λ m. is_of_type types m.1) (objects_of t)

-- the LoD of some geometry is one of these; an instance has that of its template, which the header has
abbrev pub has_lod : List (List ℕ) → Tree → Tree → Bool
has_lod lods header t = list_any (λ g. there_is (is_one_of lods) (lod (templates_of header) g))
    (flat_map object_geometries (objects_of t))

-- ---- the box

-- the vertices of a feature
abbrev pub vertices_of : Tree → List (List (Option ℤ))
vertices_of t = map vertex_of (items_if (member_of (chars (codes "vertices")) t))

-- the number v * scale + translate, if there are these three
abbrev pub coordinate_by : Option ℤ → Option ℤ → Option ℤ → Option ℤ
coordinate_by (Some v) (Some scale) (Some translate) = Some (v *ℤ scale +ℤ translate)
coordinate_by v scale translate = None

-- the coordinate of a vertex on an axis, in units of 10^-18: 0 is x, and 1 is y
abbrev pub coordinate : Tree → ℕ → List (Option ℤ) → Option ℤ
coordinate header axis v = coordinate_by (get_or v axis None) (units_at (chars (codes "scale")) header axis)
    (units_at (chars (codes "translate")) header axis)

-- some vertex is at most there, or at least there, on an axis
abbrev pub some_at_most : Tree → Tree → ℕ → ℤ → Bool
some_at_most header t axis end = list_any (λ v. there_is (λ n. int_le n end) (coordinate header axis v)) (vertices_of t)

abbrev pub some_at_least : Tree → Tree → ℕ → ℤ → Bool
some_at_least header t axis end =
    list_any (λ v. there_is (λ n. int_le end n) (coordinate header axis v)) (vertices_of t)

-- some vertices are at most at the greater ends of the box, and some at least at its lesser ends
abbrev pub is_in : Box → Tree → Tree → Bool
is_in box header t =
    some_at_most header t 0 box.max_x && some_at_least header t 0 box.min_x
    && some_at_most header t 1 box.max_y && some_at_least header t 1 box.min_y

-- ---- the whole

-- a feature beside this header satisfies what is asked: each part that is set holds
unfoldable pub holds : Criteria → Tree → Tree → Bool
holds criteria header t =
    if_set (λ ids. has_id ids t) criteria.ids
    && if_set (λ types. has_type types t) criteria.types
    && if_set (λ lods. has_lod lods header t) criteria.lods
    && if_set (λ box. is_in box header t) criteria.box

-- whether there is a box
abbrev pub needs_box : Criteria → Bool
needs_box criteria = is_some criteria.box
