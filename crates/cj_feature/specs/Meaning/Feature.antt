-- The findings of a feature, rule by rule (RULES, features).
use Rattle.std.specs.Prelude.{ℕ, List, [], ◌++◌, Bool, ◌&&◌, cond, Option, Some, None, codes}
use Rattle.std.specs.List.{flat_map}
use Rattle.std.specs.Str.{chars}
use Rattle.cj_spans.specs.declared.reason.Reason.TheVariants.{WrongType, NotThree, UnknownObjectType, IdNotFound}
use Rattle.cj_spans.specs.declared.reason.Reason.TheVariants.{NotReached}
use Rattle.cj_spans.specs.declared.finding.Finding.{Finding}
use Rattle.cj_spans.specs.Meaning.Tree.{Tree}
use Rattle.cj_spans.specs.Meaning.Kinds.{is_text, is_array, is_object}
use Rattle.cj_spans.specs.Meaning.Parts.{kind_of, items_of, members_of, member_of, member_if}
use Rattle.cj_geometry.specs.Meaning.Rule.{one, of_kind, nothing, needs, may_have, distinct, of_length}
use Rattle.cj_geometry.specs.Meaning.Numbers.{whole_number}
use Rattle.cj_geometry.specs.Meaning.ObjectTypes.{ObjectRow, row_of, is_of_extension}
use Rattle.cj_geometry.specs.Meaning.Geometry.{TemplateSource, listed, empty, geometry, count_of}
use Rattle.cj_feature.specs.Meaning.Header.{has_member_named}
use Rattle.cj_feature.specs.Meaning.Links.{is_known, at_second_level, links}
use Rattle.cj_feature.specs.Meaning.Reached.{is_reached}

-- ---- the header's templates

abbrev pub given_list : Option Tree → TemplateSource
given_list None = empty
given_list (Some t) = cond (is_array (kind_of t)) (listed t) empty

-- the templates of the header of this tree
abbrev pub templates_of : Tree → TemplateSource
templates_of header = given_list
    (member_if (chars (codes "templates")) (member_of (chars (codes "geometry-templates")) header))

-- ---- the id

-- where the city objects are an object, one of its names has the text of the id (RULES, features, 3)
abbrev pub id_in : Option Tree → Tree → List Finding
id_in None id = []
id_in (Some t) id = cond (is_object (kind_of t)) (cond (is_known (members_of t) id) [] (one IdNotFound id)) []

abbrev pub id_rule : Tree → List Finding
id_rule u = needs (chars (codes "id")) (of_kind is_text (id_in (member_of (chars (codes "CityObjects")) u))) u

-- ---- city objects

-- the type of a city object has a row, or is of an extension, if such types are known (RULES, features, 4)
abbrev pub known_type : Bool → Option ObjectRow → Tree → List Finding
known_type extensions None t = cond (extensions && is_of_extension t) [] (one UnknownObjectType t)
known_type extensions (Some r) t = []

-- a text that is the name of a type
abbrev pub object_type : Bool → Tree → List Finding
object_type extensions t = of_kind is_text (λ u. known_type extensions (row_of u) u) t

-- an array of geometries (RULES, features, 4)
abbrev pub geometries : Option ℕ → TemplateSource → Tree → List Finding
geometries vertices templates t = of_kind is_array (λ u. flat_map (geometry vertices templates) (items_of u)) t

-- an array of texts (RULES, features, 4)
abbrev pub texts : Tree → List Finding
texts t = of_kind is_array (λ u. flat_map (of_kind is_text nothing) (items_of u)) t

-- a city object of the second level needs parents (RULES, features, 4)
abbrev pub second_level : Tree → List Finding
second_level o = cond (at_second_level o) (needs (chars (codes "parents")) (of_kind is_array nothing) o) []

-- the rules on a city object, with or without types of extensions, with so many vertices if that is known, and the
-- header's templates (RULES, features, 4)
abbrev pub city_object : Bool → Option ℕ → TemplateSource → Tree → List Finding
city_object extensions vertices templates t =
    of_kind is_object (λ o.
    distinct o
    ++ needs (chars (codes "type")) (object_type extensions) o
    ++ may_have (chars (codes "geometry")) (geometries vertices templates) o
    ++ may_have (chars (codes "children")) texts o
    ++ may_have (chars (codes "parents")) texts o
    ++ second_level o) t

-- an object of city objects (RULES, features, 4)
abbrev pub city_objects : Bool → Option ℕ → TemplateSource → Tree → List Finding
city_objects extensions vertices templates t =
    of_kind is_object
    (λ u. distinct u ++ flat_map (λ m. city_object extensions vertices templates m.1) (members_of u)) t

-- ---- vertices

-- an array of arrays of three whole numbers (RULES, features, 5)
abbrev pub vertex_list : Tree → List Finding
vertex_list t = of_kind is_array (λ u. flat_map (of_length NotThree 3 whole_number) (items_of u)) t

-- ---- city objects that are reached from the main one

-- A city object is reached from the id (RULES, features, 7). A value that is no object counts as a city object. The
-- finding of its kind comes before this one, at the same place.
abbrev pub unreached : List (Tree × Tree) → Tree → Tree × Tree → List Finding
unreached objects id m = cond (is_reached objects id m.0) [] (one NotReached m.1)

-- where the id is the name of a city object, each city object is reached from it (RULES, what is reached)
abbrev pub reach_rule : Option Tree → Option Tree → List Finding
reach_rule None objects = []
reach_rule (Some id) None = []
reach_rule (Some id) (Some t) =
    cond (is_known (members_of t) id) (flat_map (unreached (members_of t) id) (members_of t)) []

-- rule 7, if all city objects must be reached (RULES, features, 7)
abbrev pub reach_if : Bool → Tree → List Finding
reach_if all_reached u = cond all_reached (reach_rule (member_of (chars (codes "id")) u)
    (member_of (chars (codes "CityObjects")) u)) []

-- ---- the feature

-- the rules on the members, in the order of their numbers (RULES, features, 1 to 7). Rule 7 applies if all city objects
-- must be reached. Types of extensions are known, or not.
abbrev pub feature_rules : TemplateSource → Bool → Bool → Tree → List Finding
feature_rules templates all_reached extensions u =
    distinct u
    ++ has_member_named (chars (codes "type")) WrongType (chars (codes "CityJSONFeature")) u
    ++ id_rule u
    ++ needs (chars (codes "CityObjects"))
    (city_objects extensions (count_of (member_of (chars (codes "vertices")) u)) templates) u
    ++ needs (chars (codes "vertices")) vertex_list u
    ++ links (member_of (chars (codes "CityObjects")) u)
    ++ reach_if all_reached u

-- the findings of a feature, with the templates of the header of this tree, with or without rule 7, and with or
-- without types of extensions (RULES, features, 1)
abbrev pub feature : Tree → Tree → Bool → Bool → List Finding
feature header t all_reached extensions =
    of_kind is_object (feature_rules (templates_of header) all_reached extensions) t
