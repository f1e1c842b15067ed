-- The types of city objects (CityJSON 2.0, section 2) with their levels (own: these names and levels are the profile).
use Rattle.std.specs.Prelude.{ℕ, List, [], ◌∷◌, Bool, true, false, codes, cond, nat_eq, Option, Some, None}
use Rattle.std.specs.Option.{option_map_or}
use Rattle.std.specs.Str.{chars}
use Rattle.cj_spans.specs.Meaning.Signs.{plus_sign}
use Rattle.cj_spans.specs.Meaning.Tree.{Tree}
use Rattle.cj_spans.specs.Meaning.Parts.{text_of, has_text}

-- a name, whether a type of this name is of the second level, and its number
pub record ObjectRow : Type 0 where
  pub name : List ℕ
  pub is_second : Bool
  pub number : ℕ

abbrev pub first_level : List ℕ → ℕ → ObjectRow
first_level name number = record { name = name; is_second = false; number = number }

abbrev pub second_level : List ℕ → ℕ → ObjectRow
second_level name number = record { name = name; is_second = true; number = number }

-- the table
unfoldable pub object_types : List ObjectRow
object_types =
    first_level (codes "Bridge") 0
    ∷ first_level (codes "Building") 1
    ∷ first_level (codes "CityFurniture") 2
    ∷ first_level (codes "CityObjectGroup") 3
    ∷ first_level (codes "GenericCityObject") 4
    ∷ first_level (codes "LandUse") 5
    ∷ first_level (codes "OtherConstruction") 6
    ∷ first_level (codes "PlantCover") 7
    ∷ first_level (codes "Railway") 8
    ∷ first_level (codes "Road") 9
    ∷ first_level (codes "SolitaryVegetationObject") 10
    ∷ first_level (codes "TINRelief") 11
    ∷ first_level (codes "TransportSquare") 12
    ∷ first_level (codes "Tunnel") 13
    ∷ first_level (codes "WaterBody") 14
    ∷ first_level (codes "Waterway") 15
    ∷ second_level (codes "BridgeConstructiveElement") 16
    ∷ second_level (codes "BridgeFurniture") 17
    ∷ second_level (codes "BridgeInstallation") 18
    ∷ second_level (codes "BridgePart") 19
    ∷ second_level (codes "BridgeRoom") 20
    ∷ second_level (codes "BuildingConstructiveElement") 21
    ∷ second_level (codes "BuildingFurniture") 22
    ∷ second_level (codes "BuildingInstallation") 23
    ∷ second_level (codes "BuildingPart") 24
    ∷ second_level (codes "BuildingRoom") 25
    ∷ second_level (codes "BuildingStorey") 26
    ∷ second_level (codes "BuildingUnit") 27
    ∷ second_level (codes "TunnelConstructiveElement") 28
    ∷ second_level (codes "TunnelFurniture") 29
    ∷ second_level (codes "TunnelHollowSpace") 30
    ∷ second_level (codes "TunnelInstallation") 31
    ∷ second_level (codes "TunnelPart") 32
    ∷ []

-- the row among these whose name is the text of the tree
abbrev pub row_in : List ObjectRow → Tree → Option ObjectRow
row_in [] t = None
row_in (r ∷ rs) t = cond (has_text (chars r.name) t) (Some r) (row_in rs t)

-- the row of the table whose name is the text of the tree, if there is one
abbrev pub row_of : Tree → Option ObjectRow
row_of t = row_in object_types t

-- the text of the tree is the name of a type of the second level
abbrev pub is_second_level : Tree → Bool
is_second_level t = option_map_or (λ (r : ObjectRow). r.is_second) (row_of t) false

-- the first code point is a plus sign
abbrev pub begins_with_plus : List ℕ → Bool
begins_with_plus [] = false
begins_with_plus (c ∷ cs) = nat_eq c plus_sign

-- the text of the tree begins as the types of extensions do (CityJSON 2.0, section 8)
abbrev pub is_of_extension : Tree → Bool
is_of_extension t = option_map_or begins_with_plus (text_of t) false
