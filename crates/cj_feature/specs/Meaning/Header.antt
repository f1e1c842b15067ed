-- The findings of a header, rule by rule (RULES, headers).
use Rattle.std.specs.Prelude.{ℕ, List, [], ◌++◌, Bool, cond, nat_eq, length, Option}
use Rattle.std.specs.Prelude.{codes, take}
use Rattle.std.specs.List.{flat_map}
use Rattle.std.specs.Option.{option_map_or}
use Rattle.std.specs.Str.{chars}
use Rattle.cj_spans.specs.declared.reason.Reason.{Reason}
use Rattle.cj_spans.specs.declared.reason.Reason.TheVariants.{WrongType, WrongVersion, NotEmpty, NotThree}
use Rattle.cj_spans.specs.declared.reason.Reason.TheVariants.{TransformNotFixed}
use Rattle.cj_spans.specs.declared.finding.Finding.{Finding}
use Rattle.cj_spans.specs.Meaning.Tree.{Tree}
use Rattle.cj_spans.specs.Meaning.Kinds.{is_text, is_array, is_object}
use Rattle.cj_spans.specs.Meaning.Parts.{items_of, members_of, member_of, has_text}
use Rattle.cj_geometry.specs.Meaning.Rule.{one, of_kind, needs, may_have, distinct, of_length}
use Rattle.cj_geometry.specs.Meaning.Numbers.{number, value_of}
use Rattle.cj_geometry.specs.Meaning.Geometry.{itself, geometry, count_of}
use Rattle.cj_decimal.specs.Meaning.Number.{is_fixed}

-- a text is this one, else the reason
abbrev pub is_named : Reason → List ℕ → Tree → List Finding
is_named reason name t = cond (has_text name t) [] (one reason t)

-- the object has a member of this name, a text, and it is this one (RULES, headers, 2 and 3) (RULES, features, 2)
abbrev pub has_member_named : List ℕ → Reason → List ℕ → Tree → List Finding
has_member_named name reason text u = needs name (of_kind is_text (is_named reason text)) u

-- ---- the transform

-- a number in range is fixed (RULES, headers, 4). Another value has a finding of its own
abbrev pub fixed : Tree → List Finding
fixed t = option_map_or (λ v. cond (is_fixed v) [] (one TransformNotFixed t)) (value_of t) []

-- an array of three numbers in range. With a box, the first two are fixed (RULES, headers, 4)
abbrev pub three_numbers : Bool → Tree → List Finding
three_numbers with_box t = of_length NotThree 3 number t ++ cond with_box (flat_map fixed (take 2 (items_of t))) []

-- an object of a scale and a translation (RULES, headers, 4)
abbrev pub transform : Bool → Tree → List Finding
transform with_box t =
    of_kind is_object (λ u.
    distinct u
    ++ needs (chars (codes "scale")) (three_numbers with_box) u
    ++ needs (chars (codes "translate")) (three_numbers with_box) u) t

-- ---- city objects and vertices

-- an object has no members (RULES, headers, 5)
abbrev pub without_members : Tree → List Finding
without_members t = cond (nat_eq (length (members_of t)) 0) [] (one NotEmpty t)

-- an object of no members (RULES, headers, 5)
abbrev pub empty_object : Tree → List Finding
empty_object t = of_kind is_object (λ u. distinct u ++ without_members u) t

-- an array has no items (RULES, headers, 6)
abbrev pub without_items : Tree → List Finding
without_items t = cond (nat_eq (length (items_of t)) 0) [] (one NotEmpty t)

-- an array of no items (RULES, headers, 6)
abbrev pub empty_array : Tree → List Finding
empty_array t = of_kind is_array without_items t

-- ---- geometry templates

-- an array of arrays of three numbers in range (RULES, headers, 7)
abbrev pub template_vertices : Tree → List Finding
template_vertices t = of_kind is_array (λ u. flat_map (of_length NotThree 3 number) (items_of u)) t

-- an array of geometries, each a template itself, with so many vertices if that is known (RULES, headers, 7)
abbrev pub template_list : Option ℕ → Tree → List Finding
template_list vertices t = of_kind is_array (λ u. flat_map (geometry vertices itself) (items_of u)) t

-- an object of templates and their vertices (RULES, headers, 7)
abbrev pub geometry_templates : Tree → List Finding
geometry_templates t =
    of_kind is_object (λ u.
    distinct u
    ++ needs (chars (codes "templates")) (template_list (count_of (member_of (chars (codes "vertices-templates")) u))) u
    ++ needs (chars (codes "vertices-templates")) template_vertices u) t

-- ---- the header

-- the rules on the members, in the order of their numbers (RULES, headers, 1 to 7)
abbrev pub header_rules : Bool → Tree → List Finding
header_rules with_box u =
    distinct u
    ++ has_member_named (chars (codes "type")) WrongType (chars (codes "CityJSON")) u
    ++ has_member_named (chars (codes "version")) WrongVersion (chars (codes "2.0")) u
    ++ needs (chars (codes "transform")) (transform with_box) u
    ++ needs (chars (codes "CityObjects")) empty_object u
    ++ needs (chars (codes "vertices")) empty_array u
    ++ may_have (chars (codes "geometry-templates")) geometry_templates u

-- the findings of a header, for a box or for none (RULES, headers, 1)
abbrev pub header : Bool → Tree → List Finding
header with_box t = of_kind is_object (header_rules with_box) t
