-- Small features, and which of them satisfy what is asked. Their trees are made of names and texts alone: where they
-- stand in a line plays no part.
use Rattle.std.specs.Prelude.{◌≡◌, ℕ, ◌*◌, ◌^◌, List, [], ◌∷◌, ◌++◌, true, false, None, Some, ℤ, pos, neg_ℤ}
use Rattle.std.specs.Prelude.{codes, slice_set}
use Rattle.cj_spans.specs.declared.token.Kind.TheVariants.{Number, Text}
use Rattle.cj_spans.specs.Meaning.Tree.{Tree, Atom, Items, Members, scalar, array, object, no_items, item, no_members}
use Rattle.cj_spans.specs.Meaning.Tree.{member}
use Rattle.cj_stream.specs.Meaning.Criteria.{Criteria, ChosenTypes, Box, holds}
use Rattle.cj_stream.specs.Usual.{everything}
use Rattle.cj_stream.specs.Adding.{has_extension, no_types, with_types}

-- ---- trees

-- what is spelled so
abbrev pub spelled : List ℕ → Atom
spelled s = record { start = 0; stop = 0; spelling = s }

-- a text between its quotes
abbrev pub quoted : List ℕ → Atom
quoted s = spelled (34 ∷ (s ++ 34 ∷ []))

abbrev pub string : List ℕ → Tree
string s = scalar Text (quoted s)

abbrev pub digits : List ℕ → Tree
digits s = scalar Number (spelled s)

abbrev pub items_of : List Tree → Items
items_of [] = no_items
items_of (t ∷ ts) = item t (items_of ts)

abbrev pub list : List Tree → Tree
list ts = array 0 0 (items_of ts)

abbrev pub members_of : List (List ℕ × Tree) → Members
members_of [] = no_members
members_of (m ∷ ms) = member (quoted m.0) m.1 (members_of ms)

abbrev pub named : List (List ℕ × Tree) → Tree
named ms = object 0 0 (members_of ms)

-- ---- headers and features

-- three numbers
abbrev pub three : List ℕ → List ℕ → List ℕ → Tree
three x y z = list (digits x ∷ digits y ∷ digits z ∷ [])

-- a header under which a vertex stands where its numbers say, with these members more
abbrev pub header_with : List (List ℕ × Tree) → Tree
header_with more =
    named ((
      codes "transform",
      named
          ((codes "scale", three (codes "1") (codes "1") (codes "1"))
          ∷ (codes "translate", three (codes "0") (codes "0") (codes "0")) ∷ []),
    ) ∷ more)

abbrev pub plain_header : Tree
plain_header = header_with []

-- a geometry of this LoD
abbrev pub geometry : List ℕ → Tree
geometry lod = named ((codes "type", string (codes "MultiSurface")) ∷ (codes "lod", string lod) ∷ [])

-- a header with one template, of this LoD, and an instance of it
abbrev pub template_header : List ℕ → Tree
template_header lod = header_with
    ((codes "geometry-templates", named ((codes "templates", list (geometry lod ∷ [])) ∷ [])) ∷ [])

abbrev pub instance : Tree
instance = named ((codes "type", string (codes "GeometryInstance")) ∷ (codes "template", digits (codes "0")) ∷ [])

-- a city object of this type with these geometries
abbrev pub city_object : List ℕ → List Tree → Tree
city_object type geometries = named ((codes "type", string type) ∷ (codes "geometry", list geometries) ∷ [])

-- a feature with the id `b`, these city objects and these vertices
abbrev pub feature : List (List ℕ × Tree) → List Tree → Tree
feature objects vertices =
    named ((codes "type", string (codes "CityJSONFeature")) ∷ (codes "id", string (codes "b"))
    ∷ (codes "CityObjects", named objects) ∷ (codes "vertices", list vertices) ∷ [])

-- a building with geometries of the LoDs 1 and 1.2, and a road with one of LoD 2; x runs from 0 to 1, and y is 0
abbrev pub two_objects : Tree
two_objects =
    feature
    ((codes "b", city_object (codes "Building") (geometry (codes "1") ∷ geometry (codes "1.2") ∷ []))
    ∷ (codes "r", city_object (codes "Road") (geometry (codes "2") ∷ [])) ∷ [])
    (three (codes "0") (codes "0") (codes "1") ∷ three (codes "1") (codes "0") (codes "0") ∷ [])

-- a building with an instance
abbrev pub one_instance : Tree
one_instance = feature ((codes "b", city_object (codes "Building") (instance ∷ [])) ∷ []) []

-- ---- rows

-- ids alone, types alone, LoDs alone, and a box alone
abbrev pub ids : List (List ℕ) → Criteria
ids texts = record everything { ids = Some texts }

abbrev pub types : ChosenTypes → Criteria
types chosen = record everything { types = Some chosen }

abbrev pub lods : List (List ℕ) → Criteria
lods texts = record everything { lods = Some texts }

abbrev pub boxed : Box → Criteria
boxed box = record everything { box = Some box }

-- the feature's id is asked for, the first or a later one; the name of another city object is none, nor is a longer
-- text
abbrev pub IdRows : Type 0
IdRows =
    (holds (ids (codes "b" ∷ [])) plain_header two_objects ≡ true)
    × (holds (ids (codes "r" ∷ codes "b" ∷ [])) plain_header two_objects ≡ true)
    × (holds (ids (codes "r" ∷ [])) plain_header two_objects ≡ false)
    × (holds (ids (codes "b1" ∷ [])) plain_header two_objects ≡ false)
    × (holds (ids []) plain_header two_objects ≡ false)

-- the type of this number too
abbrev pub and_type : ℕ → ChosenTypes → ChosenTypes
and_type number chosen = record chosen { known = slice_set chosen.known number true }

-- bridges, buildings and roads
abbrev pub bridges : ChosenTypes
bridges = and_type 0 no_types

abbrev pub buildings : ChosenTypes
buildings = and_type 1 no_types

abbrev pub roads : ChosenTypes
roads = and_type 9 no_types

abbrev pub bridges_and_roads : ChosenTypes
bridges_and_roads = and_type 9 bridges

abbrev pub bridges_and_tunnels : ChosenTypes
bridges_and_tunnels = and_type 13 bridges

-- the type of some city object is asked for: of the first, of the last, or one of two
abbrev pub TypeRows : Type 0
TypeRows =
    (holds (types buildings) plain_header two_objects ≡ true)
    × (holds (types roads) plain_header two_objects ≡ true)
    × (holds (types bridges_and_roads) plain_header two_objects ≡ true)
    × (holds (types bridges) plain_header two_objects ≡ false)
    × (holds (types bridges_and_tunnels) plain_header two_objects ≡ false)
    × (holds (types no_types) plain_header two_objects ≡ false)

-- types of extensions with these texts
abbrev pub texts : List (List ℕ) → ChosenTypes
texts names = record no_types { extensions = names }

-- a road and a shed, and a shed whose type is spelled with an escape
abbrev pub shed : Tree
shed = feature ((codes "r", city_object (codes "Road") []) ∷ (codes "s", city_object (codes "+Shed") []) ∷ []) []

abbrev pub escaped_shed : Tree
escaped_shed = feature ((codes "s", city_object (92 ∷ codes "u002bShed") []) ∷ []) []

-- a type of an extension is asked for by its text, alone or among others, in any spelling; and neither by its front nor
-- by any other type of an extension
abbrev pub ExtensionRows : Type 0
ExtensionRows =
    (holds (types (texts (codes "+Shed" ∷ []))) plain_header shed ≡ true)
    × (holds (types (texts (codes "+Hut" ∷ codes "+Shed" ∷ []))) plain_header shed ≡ true)
    × (holds (types (record bridges { extensions = codes "+Shed" ∷ [] })) plain_header shed ≡ true)
    × (holds (types (record roads { extensions = codes "+Hut" ∷ [] })) plain_header shed ≡ true)
    × (holds (types (texts (codes "+Shed" ∷ []))) plain_header escaped_shed ≡ true)
    × (holds (types (texts (codes "+She" ∷ []))) plain_header shed ≡ false)
    × (holds (types (texts (codes "+Hut" ∷ []))) plain_header shed ≡ false)
    × (holds (types bridges_and_tunnels) plain_header shed ≡ false)
    × (holds (types (texts (codes "+Shed" ∷ []))) plain_header two_objects ≡ false)

-- a name adds its flag, or its text where types of extensions are known; other names are no type's
abbrev pub NameRows : Type 0
NameRows =
    (with_types true (codes "+Shed" ∷ codes "Road" ∷ codes "+Hut" ∷ []) no_types
    ≡ Some (record roads { extensions = codes "+Shed" ∷ codes "+Hut" ∷ [] }))
    × (with_types false (codes "Road" ∷ []) no_types ≡ Some roads)
    × (with_types false (codes "+Shed" ∷ []) no_types ≡ None)
    × (with_types true (codes "+Shed" ∷ codes "Shed" ∷ []) no_types ≡ None)
    × (with_types true ([] ∷ []) no_types ≡ None)

-- memory is wanted for a type of an extension, where these are known and no name before it is unknown
abbrev pub MemoryRows : Type 0
MemoryRows =
    (has_extension true (codes "Road" ∷ codes "+Shed" ∷ codes "Shed" ∷ []) ≡ true)
    × (has_extension true (codes "Shed" ∷ codes "+Shed" ∷ []) ≡ false)
    × (has_extension true (codes "Road" ∷ []) ≡ false)
    × (has_extension false (codes "+Shed" ∷ []) ≡ false)

-- the LoD of some geometry is asked for: of the first, of one in the middle, of the last, or one of two. It is so as a
-- text, and neither by its front nor by its value.
abbrev pub LodRows : Type 0
LodRows =
    (holds (lods (codes "1" ∷ [])) plain_header two_objects ≡ true)
    × (holds (lods (codes "1.2" ∷ [])) plain_header two_objects ≡ true)
    × (holds (lods (codes "2" ∷ [])) plain_header two_objects ≡ true)
    × (holds (lods (codes "3" ∷ codes "2" ∷ [])) plain_header two_objects ≡ true)
    × (holds (lods (codes "2.2" ∷ [])) plain_header two_objects ≡ false)
    × (holds (lods (codes "2.0" ∷ codes "3" ∷ [])) plain_header two_objects ≡ false)
    × (holds (lods []) plain_header two_objects ≡ false)

-- an instance has the LoD of its template, and none where there is no template
abbrev pub InstanceRows : Type 0
InstanceRows =
    (holds (lods (codes "1" ∷ [])) (template_header (codes "1")) one_instance ≡ true)
    × (holds (lods (codes "2" ∷ [])) (template_header (codes "1")) one_instance ≡ false)
    × (holds (lods (codes "1" ∷ [])) plain_header one_instance ≡ false)

-- half of one, in units of 10^-18
abbrev pub half : ℤ
half = pos (5 * 10 ^ 17)

abbrev pub below_zero : ℤ
below_zero = neg_ℤ (pos 1)

abbrev pub one : ℤ
one = pos (10 ^ 18)

abbrev pub two : ℤ
two = pos (2 * 10 ^ 18)

abbrev pub box : ℤ → ℤ → ℤ → ℤ → Criteria
box min_x min_y max_x max_y = boxed (record { min_x = min_x; min_y = min_y; max_x = max_x; max_y = max_y })

-- to touch is enough, and so is a vertex on either side
abbrev pub InBoxRows : Type 0
InBoxRows =
    (holds (box (pos 0) (pos 0) one one) plain_header two_objects ≡ true)
    × (holds (box one (pos 0) two one) plain_header two_objects ≡ true)
    × (holds (box half (pos 0) half (pos 0)) plain_header two_objects ≡ true)

-- missed on one axis alone, below or above, be it by the least step; and no vertex is in no box
abbrev pub OutOfBoxRows : Type 0
OutOfBoxRows =
    (holds (box (pos 0) half one one) plain_header two_objects ≡ false)
    × (holds (box (pos 0) below_zero one below_zero) plain_header two_objects ≡ false)
    × (holds (box two (pos 0) two one) plain_header two_objects ≡ false)
    × (holds (box below_zero (pos 0) below_zero one) plain_header two_objects ≡ false)
    × (holds (box (pos 0) (pos 0) one one) plain_header one_instance ≡ false)

-- each part that is set has to hold
abbrev pub EachPartRows : Type 0
EachPartRows =
    (holds (record {
      ids = Some (codes "b" ∷ []);
      types = Some roads;
      lods = Some (codes "1.2" ∷ []);
      box = everything.box;
    }) plain_header two_objects ≡ true)
    × (holds (record {
      ids = Some (codes "r" ∷ []);
      types = Some roads;
      lods = Some (codes "1.2" ∷ []);
      box = everything.box;
    }) plain_header two_objects ≡ false)
    × (holds (record {
      ids = Some (codes "b" ∷ []);
      types = Some bridges;
      lods = Some (codes "1.2" ∷ []);
      box = everything.box;
    }) plain_header two_objects ≡ false)
    × (holds (record {
      ids = Some (codes "b" ∷ []);
      types = Some roads;
      lods = Some (codes "3" ∷ []);
      box = everything.box;
    }) plain_header two_objects ≡ false)
