-- Worked features and headers: lines and their trees.
use Rattle.std.specs.Prelude.{ℕ, ◌+◌, List, ◌++◌, length, codes}
use Rattle.cj_spans.specs.declared.token.Kind.TheVariants.{Null, Number, Text}
use Rattle.cj_spans.specs.Meaning.Tree.{Tree, Members, scalar, array, object, no_items, item, no_members, member}
use Rattle.cj_spans.specs.Meaning.Json.{atom_at}

-- a string and a number, at their places
abbrev pub text : List ℕ → ℕ → ℕ → Tree
text line i j = scalar Text (atom_at line i j)

abbrev pub number_at : List ℕ → ℕ → ℕ → Tree
number_at line i j = scalar Number (atom_at line i j)

-- ---- features

-- a line, and its tree
pub record Row : Type 0 where
  pub line : List ℕ
  pub tree : Tree

-- the line of a feature with the id `b`, these city objects and no vertices
abbrev pub feature_line : List ℕ → List ℕ
feature_line objects = codes "{\"type\":\"CityJSONFeature\",\"id\":\"b\",\"CityObjects\":{" ++ objects
    ++ codes "},\"vertices\":[]}"

-- its tree, by the members of the city objects
abbrev pub feature_tree : List ℕ → ℕ → Members → Tree
feature_tree line n objects =
    object 0 (n + 66)
    (member (atom_at line 1 7) (text line 8 25)
    (member (atom_at line 26 30) (text line 31 34)
    (member (atom_at line 35 48) (object 49 (n + 51) objects)
    (member (atom_at line (n + 52) (n + 62)) (array (n + 63) (n + 65) no_items) no_members))))

abbrev pub row : List ℕ → (List ℕ → Members) → Row
row objects members_of_line = record {
  line = feature_line objects;
  tree = feature_tree (feature_line objects) (length objects) (members_of_line (feature_line objects));
}

-- children and parents of itself
abbrev pub itself : Row
itself =
    row (codes "\"b\":{\"type\":\"Building\",\"children\":[\"b\"],\"parents\":[\"b\"]}")
    (λ line. member (atom_at line 50 53) (object 54 106 (member (atom_at line 55 61) (text line 62 72)
    (member (atom_at line 73 83) (array 84 89 (item (text line 85 88) no_items))
    (member (atom_at line 90 99) (array 100 105 (item (text line 101 104) no_items)) no_members)))) no_members)

-- a child that is not in the feature
abbrev pub lost_child : Row
lost_child =
    row (codes "\"b\":{\"type\":\"Building\",\"children\":[\"q\"]}")
    (λ line. member (atom_at line 50 53) (object 54 90 (member (atom_at line 55 61) (text line 62 72)
    (member (atom_at line 73 83) (array 84 89 (item (text line 85 88) no_items)) no_members))) no_members)

-- a part that its parent does not list
abbrev pub unlisted_part : Row
unlisted_part =
    row (codes "\"b\":{\"type\":\"Building\"},\"p\":{\"type\":\"BuildingPart\",\"parents\":[\"b\"]}")
    (λ line. member (atom_at line 50 53) (object 54 73 (member (atom_at line 55 61) (text line 62 72) no_members))
    (member (atom_at line 74 77) (object 78 117 (member (atom_at line 79 85) (text line 86 100)
    (member (atom_at line 101 110) (array 111 116 (item (text line 112 115) no_items)) no_members))) no_members))

-- a child that does not list its parent
abbrev pub unlisted_parent : Row
unlisted_parent =
    row (codes "\"b\":{\"type\":\"Building\",\"children\":[\"p\"]},\"p\":{\"type\":\"Building\"}")
    (λ line. member (atom_at line 50 53) (object 54 90 (member (atom_at line 55 61) (text line 62 72)
    (member (atom_at line 73 83) (array 84 89 (item (text line 85 88) no_items)) no_members)))
    (member (atom_at line 91 94) (object 95 114
    (member (atom_at line 96 102) (text line 103 113) no_members)) no_members))

-- a parent that is not in the feature
abbrev pub lost_parent : Row
lost_parent =
    row (codes "\"b\":{\"type\":\"Building\",\"parents\":[\"g\"]}")
    (λ line. member (atom_at line 50 53) (object 54 89 (member (atom_at line 55 61) (text line 62 72)
    (member (atom_at line 73 82) (array 83 88 (item (text line 84 87) no_items)) no_members))) no_members)

-- a part without parents, with one that is not in the feature, with none, and with one that is no text
abbrev pub part_alone : Row
part_alone =
    row (codes "\"b\":{\"type\":\"BuildingPart\"}")
    (λ line. member (atom_at line 50 53) (object 54 77
    (member (atom_at line 55 61) (text line 62 76) no_members)) no_members)

abbrev pub part_of_other : Row
part_of_other =
    row (codes "\"b\":{\"type\":\"BuildingPart\",\"parents\":[\"g\"]}")
    (λ line. member (atom_at line 50 53) (object 54 93 (member (atom_at line 55 61) (text line 62 76)
    (member (atom_at line 77 86) (array 87 92 (item (text line 88 91) no_items)) no_members))) no_members)

abbrev pub part_of_none : Row
part_of_none =
    row (codes "\"b\":{\"type\":\"BuildingPart\",\"parents\":[]}")
    (λ line. member (atom_at line 50 53) (object 54 90 (member (atom_at line 55 61) (text line 62 76)
    (member (atom_at line 77 86) (array 87 89 no_items) no_members))) no_members)

abbrev pub part_of_number : Row
part_of_number =
    row (codes "\"b\":{\"type\":\"BuildingPart\",\"parents\":[3]}")
    (λ line. member (atom_at line 50 53) (object 54 91 (member (atom_at line 55 61) (text line 62 76)
    (member (atom_at line 77 86) (array 87 90 (item (number_at line 88 89) no_items)) no_members))) no_members)

-- a group of what is not in the feature
abbrev pub group : Row
group =
    row (codes "\"b\":{\"type\":\"CityObjectGroup\",\"children\":[\"q\"]}")
    (λ line. member (atom_at line 50 53) (object 54 97 (member (atom_at line 55 61) (text line 62 79)
    (member (atom_at line 80 90) (array 91 96 (item (text line 92 95) no_items)) no_members))) no_members)

-- a group whose parent does not list it, and one whose parent is not in the feature
abbrev pub unlisted_group : Row
unlisted_group =
    row (codes "\"b\":{\"type\":\"CityObjectGroup\",\"parents\":[\"c\"]},\"c\":{\"type\":\"Building\"}")
    (λ line. member (atom_at line 50 53) (object 54 96 (member (atom_at line 55 61) (text line 62 79)
    (member (atom_at line 80 89) (array 90 95 (item (text line 91 94) no_items)) no_members)))
    (member (atom_at line 97 100) (object 101 120
    (member (atom_at line 102 108) (text line 109 119) no_members)) no_members))

abbrev pub group_of_other : Row
group_of_other =
    row (codes "\"b\":{\"type\":\"CityObjectGroup\",\"parents\":[\"g\"]}")
    (λ line. member (atom_at line 50 53) (object 54 96 (member (atom_at line 55 61) (text line 62 79)
    (member (atom_at line 80 89) (array 90 95 (item (text line 91 94) no_items)) no_members))) no_members)

-- a member of a group that does not list it
abbrev pub unlisted_member : Row
unlisted_member =
    row (codes "\"b\":{\"type\":\"CityObjectGroup\"},\"m\":{\"type\":\"Building\",\"parents\":[\"b\"]}")
    (λ line. member (atom_at line 50 53) (object 54 80 (member (atom_at line 55 61) (text line 62 79) no_members))
    (member (atom_at line 81 84) (object 85 120 (member (atom_at line 86 92) (text line 93 103)
    (member (atom_at line 104 113) (array 114 119 (item (text line 115 118) no_items)) no_members))) no_members))

-- two city objects of one name, of which the second has the part
abbrev pub doubled : Row
doubled =
    row (codes "\"b\":{\"type\":\"Building\"},\"b\":{\"type\":\"Building\",\"children\":[\"p\"]},\"p\":{\"type\":\"BuildingPart\",\"parents\":[\"b\"]}")
    (λ line. member (atom_at line 50 53) (object 54 73 (member (atom_at line 55 61) (text line 62 72) no_members))
    (member (atom_at line 74 77) (object 78 114 (member (atom_at line 79 85) (text line 86 96)
    (member (atom_at line 97 107) (array 108 113 (item (text line 109 112) no_items)) no_members)))
    (member (atom_at line 115 118) (object 119 158 (member (atom_at line 120 126) (text line 127 141)
    (member (atom_at line 142 151) (array 152 157
    (item (text line 153 156) no_items)) no_members))) no_members)))

-- a name spelled by an escape
abbrev pub escaped : Row
escaped =
    row (codes "\"\\u0062\":{\"type\":\"Building\",\"children\":[\"p\"]},\"p\":{\"type\":\"BuildingPart\",\"parents\":[\"b\"]}")
    (λ line. member (atom_at line 50 58) (object 59 95 (member (atom_at line 60 66) (text line 67 77)
    (member (atom_at line 78 88) (array 89 94 (item (text line 90 93) no_items)) no_members)))
    (member (atom_at line 96 99) (object 100 139 (member (atom_at line 101 107) (text line 108 122)
    (member (atom_at line 123 132) (array 133 138 (item (text line 134 137) no_items)) no_members))) no_members))

-- the same name, spelled in two ways
abbrev pub same_by_escape : Row
same_by_escape =
    row (codes "\"b\":{\"type\":\"Building\"},\"\\u0062\":{\"type\":\"Building\"}")
    (λ line. member (atom_at line 50 53) (object 54 73 (member (atom_at line 55 61) (text line 62 72) no_members))
    (member (atom_at line 74 82) (object 83 102
    (member (atom_at line 84 90) (text line 91 101) no_members)) no_members))

-- a city object that is a number, and one that is a child
abbrev pub no_object : Row
no_object =
    row (codes "\"b\":3")
    (λ line. member (atom_at line 50 53) (number_at line 54 55) no_members)

abbrev pub child_no_object : Row
child_no_object =
    row (codes "\"b\":{\"type\":\"Building\",\"children\":[\"c\"]},\"c\":3")
    (λ line. member (atom_at line 50 53) (object 54 90 (member (atom_at line 55 61) (text line 62 72)
    (member (atom_at line 73 83) (array 84 89 (item (text line 85 88) no_items)) no_members)))
    (member (atom_at line 91 94) (number_at line 95 96) no_members))

-- a part whose parent is a name that stands before a number
abbrev pub part_of_no_object : Row
part_of_no_object =
    row (codes "\"b\":{\"type\":\"BuildingPart\",\"parents\":[\"c\"]},\"c\":3")
    (λ line. member (atom_at line 50 53) (object 54 93 (member (atom_at line 55 61) (text line 62 76)
    (member (atom_at line 77 86) (array 87 92 (item (text line 88 91) no_items)) no_members)))
    (member (atom_at line 94 97) (number_at line 98 99) no_members))

-- no city object at all, and none with the feature's id
abbrev pub no_objects : Row
no_objects =
    row (codes "") (λ line. no_members)

abbrev pub other_id : Row
other_id =
    row (codes "\"c\":{\"type\":\"Building\"}")
    (λ line. member (atom_at line 50 53) (object 54 73
    (member (atom_at line 55 61) (text line 62 72) no_members)) no_members)

-- names of a member that is not read
abbrev pub unread_names : Row
unread_names =
    row (codes "\"b\":{\"type\":\"Building\",\"attributes\":{\"a\":1,\"a\":2}}")
    (λ line. member (atom_at line 50 53) (object 54 100 (member (atom_at line 55 61) (text line 62 72)
    (member (atom_at line 73 85) (object 86 99 (member (atom_at line 87 90) (number_at line 91 92)
    (member (atom_at line 93 96) (number_at line 97 98) no_members))) no_members))) no_members)

-- an unknown type, and a type of an extension, also by an escape; with a parent and a child that are not in the feature
abbrev pub shed : Row
shed =
    row (codes "\"b\":{\"type\":\"Shed\"}")
    (λ line. member (atom_at line 50 53) (object 54 69
    (member (atom_at line 55 61) (text line 62 68) no_members)) no_members)

abbrev pub extension : Row
extension =
    row (codes "\"b\":{\"type\":\"+Shed\"}")
    (λ line. member (atom_at line 50 53) (object 54 70
    (member (atom_at line 55 61) (text line 62 69) no_members)) no_members)

abbrev pub extension_by_escape : Row
extension_by_escape =
    row (codes "\"b\":{\"type\":\"\\u002bShed\"}")
    (λ line. member (atom_at line 50 53) (object 54 75
    (member (atom_at line 55 61) (text line 62 74) no_members)) no_members)

abbrev pub extension_with_parent : Row
extension_with_parent =
    row (codes "\"b\":{\"type\":\"+Shed\",\"parents\":[\"q\"]}")
    (λ line. member (atom_at line 50 53) (object 54 86 (member (atom_at line 55 61) (text line 62 69)
    (member (atom_at line 70 79) (array 80 85 (item (text line 81 84) no_items)) no_members))) no_members)

abbrev pub extension_with_child : Row
extension_with_child =
    row (codes "\"b\":{\"type\":\"+Shed\",\"children\":[\"q\"]}")
    (λ line. member (atom_at line 50 53) (object 54 87 (member (atom_at line 55 61) (text line 62 69)
    (member (atom_at line 70 80) (array 81 86 (item (text line 82 85) no_items)) no_members))) no_members)

-- children that are null
abbrev pub null_children : Row
null_children =
    row (codes "\"b\":{\"type\":\"Building\",\"children\":null}")
    (λ line. member (atom_at line 50 53) (object 54 89 (member (atom_at line 55 61) (text line 62 72)
    (member (atom_at line 73 83) (scalar Null (atom_at line 84 88)) no_members))) no_members)

-- ---- city objects that hang on the main one, or not

-- a chain of parts that ends in the main one, so that one time over them in their order does not reach all
abbrev pub chain : Row
chain =
    row (codes "\"q\":{\"type\":\"BuildingPart\",\"parents\":[\"p\"]},\"p\":{\"type\":\"BuildingPart\",\"parents\":[\"b\"],\"children\":[\"q\"]},\"b\":{\"type\":\"Building\",\"children\":[\"p\"]}")
    (λ line. member (atom_at line 50 53) (object 54 93 (member (atom_at line 55 61) (text line 62 76)
    (member (atom_at line 77 86) (array 87 92 (item (text line 88 91) no_items)) no_members)))
    (member (atom_at line 94 97) (object 98 154 (member (atom_at line 99 105) (text line 106 120)
    (member (atom_at line 121 130) (array 131 136 (item (text line 132 135) no_items))
    (member (atom_at line 137 147) (array 148 153 (item (text line 149 152) no_items)) no_members))))
    (member (atom_at line 155 158) (object 159 195 (member (atom_at line 160 166) (text line 167 177)
    (member (atom_at line 178 188) (array 189 194 (item (text line 190 193) no_items)) no_members))) no_members)))

-- a part that is not reached, before its parent, which is not reached either
abbrev pub part_apart : Row
part_apart =
    row (codes "\"b\":{\"type\":\"Building\"},\"p\":{\"type\":\"BuildingPart\",\"parents\":[\"c\"]},\"c\":{\"type\":\"Building\",\"children\":[\"p\"]}")
    (λ line. member (atom_at line 50 53) (object 54 73 (member (atom_at line 55 61) (text line 62 72) no_members))
    (member (atom_at line 74 77) (object 78 117 (member (atom_at line 79 85) (text line 86 100)
    (member (atom_at line 101 110) (array 111 116 (item (text line 112 115) no_items)) no_members)))
    (member (atom_at line 118 121) (object 122 158 (member (atom_at line 123 129) (text line 130 140)
    (member (atom_at line 141 151) (array 152 157 (item (text line 153 156) no_items)) no_members))) no_members)))

-- a main city object of the second level, whose parent it does not list
abbrev pub main_part : Row
main_part =
    row (codes "\"b\":{\"type\":\"BuildingPart\",\"parents\":[\"c\"]},\"c\":{\"type\":\"Building\",\"children\":[\"b\"]}")
    (λ line. member (atom_at line 50 53) (object 54 93 (member (atom_at line 55 61) (text line 62 76)
    (member (atom_at line 77 86) (array 87 92 (item (text line 88 91) no_items)) no_members)))
    (member (atom_at line 94 97) (object 98 134 (member (atom_at line 99 105) (text line 106 116)
    (member (atom_at line 117 127) (array 128 133 (item (text line 129 132) no_items)) no_members))) no_members))

-- a number in the place of a city object that is not reached
abbrev pub number_apart : Row
number_apart =
    row (codes "\"b\":{\"type\":\"Building\"},\"c\":3")
    (λ line. member (atom_at line 50 53) (object 54 73 (member (atom_at line 55 61) (text line 62 72) no_members))
    (member (atom_at line 74 77) (number_at line 78 79) no_members))

-- ---- headers

-- an object of no members
abbrev pub bare : Tree
bare = object 0 2 no_members

-- a header
abbrev pub plain_header_line : List ℕ
plain_header_line = codes "{\"type\":\"CityJSON\",\"version\":\"2.0\",\"transform\":{\"scale\":[1,1,1],\"translate\":[0,0,0]},\"CityObjects\":{},\"vertices\":[]}"

abbrev pub plain_header : Tree
plain_header =
    object 0 116 (member (atom_at plain_header_line 1 7) (text plain_header_line 8 18)
    (member (atom_at plain_header_line 19 28) (text plain_header_line 29 34)
    (member (atom_at plain_header_line 35 46) (object 47 84
    (member (atom_at plain_header_line 48 55) (array 56 63 (item (number_at plain_header_line 57 58)
    (item (number_at plain_header_line 59 60) (item (number_at plain_header_line 61 62) no_items))))
    (member (atom_at plain_header_line 64 75) (array 76 83 (item (number_at plain_header_line 77 78)
    (item (number_at plain_header_line 79 80) (item (number_at plain_header_line 81 82) no_items)))) no_members)))
    (member (atom_at plain_header_line 85 98) (object 99 101 no_members)
    (member (atom_at plain_header_line 102 112) (array 113 115 no_items) no_members)))))

-- another type, another version, and the same in other digits
abbrev pub other_type_line : List ℕ
other_type_line = codes "{\"type\":\"CityJSONFeature\",\"version\":\"2.0\",\"transform\":{\"scale\":[1,1,1],\"translate\":[0,0,0]},\"CityObjects\":{},\"vertices\":[]}"

abbrev pub other_type : Tree
other_type =
    object 0 123 (member (atom_at other_type_line 1 7) (text other_type_line 8 25)
    (member (atom_at other_type_line 26 35) (text other_type_line 36 41)
    (member (atom_at other_type_line 42 53) (object 54 91 (member (atom_at other_type_line 55 62) (array 63 70
    (item (number_at other_type_line 64 65) (item (number_at other_type_line 66 67)
    (item (number_at other_type_line 68 69) no_items)))) (member (atom_at other_type_line 71 82) (array 83 90
    (item (number_at other_type_line 84 85) (item (number_at other_type_line 86 87)
    (item (number_at other_type_line 88 89) no_items)))) no_members)))
    (member (atom_at other_type_line 92 105) (object 106 108 no_members)
    (member (atom_at other_type_line 109 119) (array 120 122 no_items) no_members)))))

abbrev pub other_version_line : List ℕ
other_version_line = codes "{\"type\":\"CityJSON\",\"version\":\"1.1\",\"transform\":{\"scale\":[1,1,1],\"translate\":[0,0,0]},\"CityObjects\":{},\"vertices\":[]}"

abbrev pub other_version : Tree
other_version =
    object 0 116 (member (atom_at other_version_line 1 7) (text other_version_line 8 18)
    (member (atom_at other_version_line 19 28) (text other_version_line 29 34)
    (member (atom_at other_version_line 35 46) (object 47 84
    (member (atom_at other_version_line 48 55) (array 56 63 (item (number_at other_version_line 57 58)
    (item (number_at other_version_line 59 60) (item (number_at other_version_line 61 62) no_items))))
    (member (atom_at other_version_line 64 75) (array 76 83 (item (number_at other_version_line 77 78)
    (item (number_at other_version_line 79 80) (item (number_at other_version_line 81 82) no_items)))) no_members)))
    (member (atom_at other_version_line 85 98) (object 99 101 no_members)
    (member (atom_at other_version_line 102 112) (array 113 115 no_items) no_members)))))

abbrev pub more_digits_line : List ℕ
more_digits_line = codes "{\"type\":\"CityJSON\",\"version\":\"2.00\",\"transform\":{\"scale\":[1,1,1],\"translate\":[0,0,0]},\"CityObjects\":{},\"vertices\":[]}"

abbrev pub more_digits : Tree
more_digits =
    object 0 117 (member (atom_at more_digits_line 1 7) (text more_digits_line 8 18)
    (member (atom_at more_digits_line 19 28) (text more_digits_line 29 35)
    (member (atom_at more_digits_line 36 47) (object 48 85 (member (atom_at more_digits_line 49 56) (array 57 64
    (item (number_at more_digits_line 58 59) (item (number_at more_digits_line 60 61)
    (item (number_at more_digits_line 62 63) no_items)))) (member (atom_at more_digits_line 65 76) (array 77 84
    (item (number_at more_digits_line 78 79) (item (number_at more_digits_line 80 81)
    (item (number_at more_digits_line 82 83) no_items)))) no_members)))
    (member (atom_at more_digits_line 86 99) (object 100 102 no_members)
    (member (atom_at more_digits_line 103 113) (array 114 116 no_items) no_members)))))

-- a transform of no scale, and a scale of two numbers
abbrev pub no_scale_line : List ℕ
no_scale_line = codes "{\"type\":\"CityJSON\",\"version\":\"2.0\",\"transform\":{\"translate\":[0,0,0]},\"CityObjects\":{},\"vertices\":[]}"

abbrev pub no_scale : Tree
no_scale =
    object 0 100 (member (atom_at no_scale_line 1 7) (text no_scale_line 8 18)
    (member (atom_at no_scale_line 19 28) (text no_scale_line 29 34)
    (member (atom_at no_scale_line 35 46) (object 47 68 (member (atom_at no_scale_line 48 59) (array 60 67
    (item (number_at no_scale_line 61 62) (item (number_at no_scale_line 63 64)
    (item (number_at no_scale_line 65 66) no_items)))) no_members))
    (member (atom_at no_scale_line 69 82) (object 83 85 no_members)
    (member (atom_at no_scale_line 86 96) (array 97 99 no_items) no_members)))))

abbrev pub two_scales_line : List ℕ
two_scales_line = codes "{\"type\":\"CityJSON\",\"version\":\"2.0\",\"transform\":{\"scale\":[1,1],\"translate\":[0,0,0]},\"CityObjects\":{},\"vertices\":[]}"

abbrev pub two_scales : Tree
two_scales =
    object 0 114 (member (atom_at two_scales_line 1 7) (text two_scales_line 8 18)
    (member (atom_at two_scales_line 19 28) (text two_scales_line 29 34)
    (member (atom_at two_scales_line 35 46) (object 47 82 (member (atom_at two_scales_line 48 55) (array 56 61
    (item (number_at two_scales_line 57 58) (item (number_at two_scales_line 59 60) no_items)))
    (member (atom_at two_scales_line 62 73) (array 74 81 (item (number_at two_scales_line 75 76)
    (item (number_at two_scales_line 77 78) (item (number_at two_scales_line 79 80) no_items)))) no_members)))
    (member (atom_at two_scales_line 83 96) (object 97 99 no_members)
    (member (atom_at two_scales_line 100 110) (array 111 113 no_items) no_members)))))

-- city objects, and vertices
abbrev pub with_objects_line : List ℕ
with_objects_line = codes "{\"type\":\"CityJSON\",\"version\":\"2.0\",\"transform\":{\"scale\":[1,1,1],\"translate\":[0,0,0]},\"CityObjects\":{\"b\":0},\"vertices\":[]}"

abbrev pub with_objects : Tree
with_objects =
    object 0 121 (member (atom_at with_objects_line 1 7) (text with_objects_line 8 18)
    (member (atom_at with_objects_line 19 28) (text with_objects_line 29 34)
    (member (atom_at with_objects_line 35 46) (object 47 84
    (member (atom_at with_objects_line 48 55) (array 56 63 (item (number_at with_objects_line 57 58)
    (item (number_at with_objects_line 59 60) (item (number_at with_objects_line 61 62) no_items))))
    (member (atom_at with_objects_line 64 75) (array 76 83 (item (number_at with_objects_line 77 78)
    (item (number_at with_objects_line 79 80) (item (number_at with_objects_line 81 82) no_items)))) no_members)))
    (member (atom_at with_objects_line 85 98) (object 99 106
    (member (atom_at with_objects_line 100 103) (number_at with_objects_line 104 105) no_members))
    (member (atom_at with_objects_line 107 117) (array 118 120 no_items) no_members)))))

abbrev pub with_vertices_line : List ℕ
with_vertices_line = codes "{\"type\":\"CityJSON\",\"version\":\"2.0\",\"transform\":{\"scale\":[1,1,1],\"translate\":[0,0,0]},\"CityObjects\":{},\"vertices\":[0]}"

abbrev pub with_vertices : Tree
with_vertices =
    object 0 117 (member (atom_at with_vertices_line 1 7) (text with_vertices_line 8 18)
    (member (atom_at with_vertices_line 19 28) (text with_vertices_line 29 34)
    (member (atom_at with_vertices_line 35 46) (object 47 84
    (member (atom_at with_vertices_line 48 55) (array 56 63 (item (number_at with_vertices_line 57 58)
    (item (number_at with_vertices_line 59 60) (item (number_at with_vertices_line 61 62) no_items))))
    (member (atom_at with_vertices_line 64 75) (array 76 83 (item (number_at with_vertices_line 77 78)
    (item (number_at with_vertices_line 79 80) (item (number_at with_vertices_line 81 82) no_items)))) no_members)))
    (member (atom_at with_vertices_line 85 98) (object 99 101 no_members)
    (member (atom_at with_vertices_line 102 112) (array 113 116
    (item (number_at with_vertices_line 114 115) no_items)) no_members)))))
