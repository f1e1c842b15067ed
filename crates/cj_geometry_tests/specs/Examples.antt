-- Worked geometries: lines and their trees.
use Rattle.std.specs.Prelude.{◌≡◌, ℕ, zero, suc, ◌+◌, List, ◌++◌, length, true, false, [], ◌∷◌, Some, codes}
use Rattle.cj_spans.specs.declared.token.Kind.TheVariants.{Null, Number, Text}
use Rattle.cj_spans.specs.Meaning.Tree.{Tree, Items, scalar, array, object, no_items, item, no_members, member}
use Rattle.cj_spans.specs.Meaning.Json.{atom_at}
use Rattle.cj_spans.specs.Meaning.Parts.{has_text}
use Rattle.cj_geometry.specs.Meaning.Table.{Row, form_of}

-- two points
abbrev pub points_line : List ℕ
points_line = codes "{\"type\":\"MultiPoint\",\"lod\":\"1\",\"boundaries\":[0,1]}"

abbrev pub points : Tree
points =
    object 0 50
    (member (atom_at points_line 1 7) (scalar Text (atom_at points_line 8 20))
    (member (atom_at points_line 21 26) (scalar Text (atom_at points_line 27 30))
    (member (atom_at points_line 31 43)
    (array 44 49 (item (scalar Number (atom_at points_line 45 46))
    (item (scalar Number (atom_at points_line 47 48)) no_items))) no_members)))

-- a number
abbrev pub three : Tree
three = scalar Number (atom_at (codes "3") 0 1)

-- an object of no member
abbrev pub empty_object : Tree
empty_object = object 0 2 no_members

-- a type that is not in the table
abbrev pub cone_line : List ℕ
cone_line = codes "{\"type\":\"Cone\"}"

abbrev pub cone : Tree
cone = object 0 15 (member (atom_at cone_line 1 7) (scalar Text (atom_at cone_line 8 14)) no_members)

-- an instance of nothing
abbrev pub instance_line : List ℕ
instance_line = codes "{\"type\":\"GeometryInstance\"}"

abbrev pub bare_instance : Tree
bare_instance = object 0 27 (member (atom_at instance_line 1 7) (scalar Text (atom_at instance_line 8 26)) no_members)

-- a list of one template, with a level of detail
abbrev pub templates_line : List ℕ
templates_line = codes "[{\"lod\":\"2\"}]"

abbrev pub templates : Tree
templates = array 0 13 (item (object 1 12
    (member (atom_at templates_line 2 7) (scalar Text (atom_at templates_line 8 11)) no_members)) no_items)

-- an instance of the template of this number, at this vertex, with a matrix of these numbers
abbrev pub placed_line : List ℕ → List ℕ → List ℕ → List ℕ
placed_line template vertex matrix =
    codes "{\"type\":\"GeometryInstance\",\"template\":" ++ template ++ codes ",\"boundaries\":[" ++ vertex
    ++ codes "],\"transformationMatrix\":[" ++ matrix ++ codes "]}"

-- so many numbers of one digit with commas between them, from a place on
abbrev pub digits_from : List ℕ → ℕ → ℕ → Items
digits_from line i zero = no_items
digits_from line i (suc n) = item (scalar Number (atom_at line i (i + 1))) (digits_from line (i + 2) n)

-- its tree, by the number of the matrix's numbers; the template's number ends at 39, where it is of one digit
abbrev pub placed : List ℕ → List ℕ → List ℕ → ℕ → Tree
placed template vertex matrix count =
    let line = placed_line template vertex matrix in
    let a = 38 + length template in
    let b = a + 15 + length vertex in
    let c = b + 26 + length matrix in
    object 0 (c + 2)
    (member (atom_at line 1 7) (scalar Text (atom_at line 8 26))
    (member (atom_at line 27 37) (scalar Number (atom_at line 38 a))
    (member (atom_at line (a + 1) (a + 13))
    (array (a + 14) (b + 1) (item (scalar Number (atom_at line (a + 15) b)) no_items))
    (member (atom_at line (b + 2) (b + 24)) (array (b + 25) (c + 1) (digits_from line (b + 26) count)) no_members))))

-- matrices of 16 numbers, of one less and of one more
abbrev pub sixteen : List ℕ
sixteen = codes "1,0,0,0,0,1,0,0,0,0,1,0,0,0,0,1"

abbrev pub fifteen : List ℕ
fifteen = codes "1,0,0,0,0,1,0,0,0,0,1,0,0,0,0"

abbrev pub seventeen : List ℕ
seventeen = codes "1,0,0,0,0,1,0,0,0,0,1,0,0,0,0,1,0"

-- a complete instance, and one with something wrong in it
abbrev pub complete_instance : Tree
complete_instance = placed (codes "0") (codes "0") sixteen 16

abbrev pub short_instance : Tree
short_instance = placed (codes "0") (codes "0") fifteen 15

abbrev pub long_instance : Tree
long_instance = placed (codes "0") (codes "0") seventeen 17

abbrev pub negative_instance : Tree
negative_instance = placed (codes "0") (codes "-1") sixteen 16

abbrev pub past_instance : Tree
past_instance = placed (codes "1") (codes "0") sixteen 16

-- two types, of which the second name is spelled by an escape
abbrev pub doubled_line : List ℕ
doubled_line = codes "{\"type\":\"Cone\",\"\\u0074ype\":\"Solid\"}"

abbrev pub doubled : Tree
doubled = object 0 35 (member (atom_at doubled_line 1 7) (scalar Text (atom_at doubled_line 8 14))
    (member (atom_at doubled_line 15 26) (scalar Text (atom_at doubled_line 27 34)) no_members))

-- a solid of a shell of two surfaces, with semantics of one surface and values of these bytes
abbrev pub solid_line : List ℕ → List ℕ
solid_line values = codes "{\"type\":\"Solid\",\"lod\":\"1\",\"boundaries\":[[[[0,1,2]],[[0,2,1]]]],\"semantics\":{\"surfaces\":[{\"type\":\"RoofSurface\"}],\"values\":" ++ values ++ codes "}}"

-- a ring of three vertices
abbrev pub ring : List ℕ → ℕ → Tree
ring line i = array i (i + 7) (item (scalar Number (atom_at line (i + 1) (i + 2)))
    (item (scalar Number (atom_at line (i + 3) (i + 4)))
    (item (scalar Number (atom_at line (i + 5) (i + 6))) no_items)))

abbrev pub shell : List ℕ → Tree
shell line = array 39 62 (item (array 40 61
    (item (array 41 50 (item (ring line 42) no_items))
    (item (array 51 60 (item (ring line 52) no_items)) no_items))) no_items)

abbrev pub roof_surfaces : List ℕ → Tree
roof_surfaces line = array 87 111
    (item (object 88 110 (member (atom_at line 89 95) (scalar Text (atom_at line 96 109)) no_members)) no_items)

-- its tree, by the tree of the values
abbrev pub solid : List ℕ → (List ℕ → Tree) → Tree
solid values tree_of =
    let line = solid_line values in
    object 0 (123 + length values)
    (member (atom_at line 1 7) (scalar Text (atom_at line 8 15))
    (member (atom_at line 16 21) (scalar Text (atom_at line 22 25))
    (member (atom_at line 26 38) (shell line)
    (member (atom_at line 63 74)
    (object 75 (122 + length values)
    (member (atom_at line 76 86) (roof_surfaces line) (member (atom_at line 112 120) (tree_of line) no_members)))
    no_members))))

-- null as a whole, for the shell, and for the second surface
abbrev pub null_whole : Tree
null_whole = solid (codes "null") (λ line. scalar Null (atom_at line 121 125))

abbrev pub null_shell : Tree
null_shell = solid (codes "[null]") (λ line. array 121 127 (item (scalar Null (atom_at line 122 126)) no_items))

abbrev pub null_surface : Tree
null_surface = solid (codes "[[0,null]]")
    (λ line. array 121 131 (item (array 122 130
    (item (scalar Number (atom_at line 123 124)) (item (scalar Null (atom_at line 125 129)) no_items))) no_items))

-- values of no shell, of one surface, and with an index past the surfaces
abbrev pub no_shell : Tree
no_shell = solid (codes "[]") (λ line. array 121 123 no_items)

abbrev pub one_surface : Tree
one_surface = solid (codes "[[0]]")
    (λ line. array 121 126 (item (array 122 125 (item (scalar Number (atom_at line 123 124)) no_items)) no_items))

abbrev pub past_surfaces : Tree
past_surfaces = solid (codes "[[0,1]]")
    (λ line. array 121 128 (item (array 122 127
    (item (scalar Number (atom_at line 123 124)) (item (scalar Number (atom_at line 125 126)) no_items))) no_items))

-- a string of this spelling
abbrev pub string : List ℕ → Tree
string s = scalar Text (record { start = 0; stop = length s; spelling = s })

-- every value with the text of a row's name has the row's form
abbrev pub HaveTheirForms : List Row → Type 0
HaveTheirForms [] = Unit {0}
HaveTheirForms (r ∷ rs) = ((t : Tree) → has_text r.name t ≡ true → form_of t ≡ Some r.form) × HaveTheirForms rs

-- a value has the text of no row's name
abbrev pub HasNoName : List Row → Tree → Type 0
HasNoName [] t = Unit {0}
HasNoName (r ∷ rs) t = (has_text r.name t ≡ false) × HasNoName rs t
