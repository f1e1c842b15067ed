-- Links between city objects: the findings, by tests on their members (RULES, links).
use Rattle.std.specs.Prelude.{ℕ, List, [], ◌++◌, Bool, false, not, ◌&&◌, cond, Option, codes}
use Rattle.std.specs.List.{flat_map, list_any}
use Rattle.std.specs.Option.{option_map_or}
use Rattle.std.specs.Str.{chars}
use Rattle.cj_spans.specs.declared.reason.Reason.TheVariants.{ChildNotFound, LinkNotMutual, NoParent}
use Rattle.cj_spans.specs.declared.finding.Finding.{Finding}
use Rattle.cj_spans.specs.Meaning.Tree.{Tree}
use Rattle.cj_spans.specs.Meaning.Kinds.{is_text, is_array}
use Rattle.cj_spans.specs.Meaning.Parts.{kind_of, items_of, member_of, text_of, are_same_texts, has_text}
use Rattle.cj_spans.specs.Meaning.Parts.{items_if, members_if}
use Rattle.cj_geometry.specs.Meaning.Rule.{one, if_there}
use Rattle.cj_geometry.specs.Meaning.ObjectTypes.{is_second_level}

-- both have a text, the same
abbrev pub same_text : Tree → Tree → Bool
same_text t u = are_same_texts (text_of t) (text_of u)

-- the items of a member of a city object
abbrev pub listed_in : List ℕ → Tree → List Tree
listed_in list o = items_if (member_of list o)

-- a city object has a type, and the test holds for it
abbrev pub type_is : (Tree → Bool) → Tree → Bool
type_is test o = option_map_or test (member_of (chars (codes "type")) o) false

-- a city object group
abbrev pub is_group : Tree → Bool
is_group o = type_is (has_text (chars (codes "CityObjectGroup"))) o

-- a city object of the second level
abbrev pub at_second_level : Tree → Bool
at_second_level o = type_is is_second_level o

-- ---- `objects` are the city objects of a feature, with their names

-- the id is in the feature: some city object has it as its name
abbrev pub is_known : List (Tree × Tree) → Tree → Bool
is_known objects id = list_any (λ m. same_text m.0 id) objects

-- some item has the text of the id
abbrev pub has_item : List Tree → Tree → Bool
has_item items id = list_any (λ x. same_text x id) items

-- `from` lists `to`: some city object with the name `from` has `to` in its member `list`
abbrev pub lists : List ℕ → List (Tree × Tree) → Tree → Tree → Bool
lists list objects from to = list_any (λ m. same_text m.0 from && has_item (listed_in list m.1) to) objects

-- the other city object lists this one back, else a finding at the item
abbrev pub answered : Bool → Tree → List Finding
answered back item = cond back [] (one LinkNotMutual item)

-- a child is in the feature and lists the city object of this name as a parent (RULES, links, 1 and 2)
abbrev pub child : List (Tree × Tree) → Tree → Tree → List Finding
child objects name item =
    cond (is_text (kind_of item)) (cond (is_known objects item)
    (answered (lists (chars (codes "parents")) objects item name) item) (one ChildNotFound item)) []

-- a parent that is in the feature lists the city object of this name as a child (RULES, links, 3)
abbrev pub parent : List (Tree × Tree) → Tree → Tree → List Finding
parent objects name item = cond (is_known objects item)
    (answered (lists (chars (codes "children")) objects item name) item) []

-- the children of a city object that is no group (RULES, links, 1 and 2)
abbrev pub children : List (Tree × Tree) → Tree × Tree → List Finding
children objects m = cond (is_group m.1) [] (flat_map (child objects m.0) (listed_in (chars (codes "children")) m.1))

-- the parents of a city object (RULES, links, 3)
abbrev pub parents : List (Tree × Tree) → Tree × Tree → List Finding
parents objects m = flat_map (parent objects m.0) (listed_in (chars (codes "parents")) m.1)

-- an array of parents has one that is in the feature, else the city object has a finding (RULES, links, 4)
abbrev pub has_parent : List (Tree × Tree) → Tree → Tree → List Finding
has_parent objects o t = cond (is_array (kind_of t) && not (list_any (is_known objects) (items_of t)))
    (one NoParent o) []

-- a city object of the second level, by its member of parents (RULES, links, 4)
abbrev pub part_of : List (Tree × Tree) → Tree → Option Tree → List Finding
part_of objects o t = if_there (has_parent objects o) t

-- the rule where the city object is of the second level (RULES, links, 4)
abbrev pub part : List (Tree × Tree) → Tree × Tree → List Finding
part objects m = cond (at_second_level m.1) (part_of objects m.1 (member_of (chars (codes "parents")) m.1)) []

-- all rules on the links of a city object
abbrev pub object_links : List (Tree × Tree) → Tree × Tree → List Finding
object_links objects m = children objects m ++ parents objects m ++ part objects m

-- the links of the city objects, if there are any (RULES, features, 6)
abbrev pub links : Option Tree → List Finding
links objects = flat_map (object_links (members_if objects)) (members_if objects)
