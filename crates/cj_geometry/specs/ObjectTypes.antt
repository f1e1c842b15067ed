-- The rows of the table of types, by a name, by a number and by a type of the code.
use Rattle.std.specs.Prelude.{ℕ, List, [], ◌∷◌, get_or, cond, Option, Some, None}
use Rattle.std.specs.Str.{bytes_eq}
use Rattle.cj_geometry.specs.declared.object_type.ObjectType.{ObjectType}
use Rattle.cj_geometry.specs.declared.object_type.ObjectType.TheVariants.{Bridge, Building, CityFurniture}
use Rattle.cj_geometry.specs.declared.object_type.ObjectType.TheVariants.{CityObjectGroup, GenericCityObject, LandUse}
use Rattle.cj_geometry.specs.declared.object_type.ObjectType.TheVariants.{OtherConstruction, PlantCover, Railway, Road}
use Rattle.cj_geometry.specs.declared.object_type.ObjectType.TheVariants.{SolitaryVegetationObject, TINRelief}
use Rattle.cj_geometry.specs.declared.object_type.ObjectType.TheVariants.{TransportSquare, Tunnel, WaterBody, Waterway}
use Rattle.cj_geometry.specs.declared.object_type.ObjectType.TheVariants.{BridgeConstructiveElement, BridgeFurniture}
use Rattle.cj_geometry.specs.declared.object_type.ObjectType.TheVariants.{BridgeInstallation, BridgePart, BridgeRoom}
use Rattle.cj_geometry.specs.declared.object_type.ObjectType.TheVariants.{BuildingConstructiveElement}
use Rattle.cj_geometry.specs.declared.object_type.ObjectType.TheVariants.{BuildingFurniture, BuildingInstallation}
use Rattle.cj_geometry.specs.declared.object_type.ObjectType.TheVariants.{BuildingPart, BuildingRoom, BuildingStorey}
use Rattle.cj_geometry.specs.declared.object_type.ObjectType.TheVariants.{BuildingUnit, TunnelConstructiveElement}
use Rattle.cj_geometry.specs.declared.object_type.ObjectType.TheVariants.{TunnelFurniture, TunnelHollowSpace}
use Rattle.cj_geometry.specs.declared.object_type.ObjectType.TheVariants.{TunnelInstallation, TunnelPart}
use Rattle.cj_geometry.specs.Meaning.ObjectTypes.{ObjectRow, first_level, object_types}

-- how many types there are: the rows of the table below
abbrev pub type_count : ℕ
type_count = 33

-- the row, of these, of the type of this name, in UTF-8
abbrev pub row_named_in : List ObjectRow → List ℕ → Option ObjectRow
row_named_in [] s = None
row_named_in (r ∷ rs) s = cond (bytes_eq s r.name) (Some r) (row_named_in rs s)

-- the row of the type of this name; none for any other text
abbrev pub row_named : List ℕ → Option ObjectRow
row_named s = row_named_in object_types s

-- the row of a number
abbrev pub row_numbered : ℕ → ObjectRow
row_numbered n = get_or object_types n (first_level [] 0)

-- the number of a type: its place in the table, from 0
abbrev pub number_of : ObjectType → ℕ
number_of Bridge = 0
number_of Building = 1
number_of CityFurniture = 2
number_of CityObjectGroup = 3
number_of GenericCityObject = 4
number_of LandUse = 5
number_of OtherConstruction = 6
number_of PlantCover = 7
number_of Railway = 8
number_of Road = 9
number_of SolitaryVegetationObject = 10
number_of TINRelief = 11
number_of TransportSquare = 12
number_of Tunnel = 13
number_of WaterBody = 14
number_of Waterway = 15
number_of BridgeConstructiveElement = 16
number_of BridgeFurniture = 17
number_of BridgeInstallation = 18
number_of BridgePart = 19
number_of BridgeRoom = 20
number_of BuildingConstructiveElement = 21
number_of BuildingFurniture = 22
number_of BuildingInstallation = 23
number_of BuildingPart = 24
number_of BuildingRoom = 25
number_of BuildingStorey = 26
number_of BuildingUnit = 27
number_of TunnelConstructiveElement = 28
number_of TunnelFurniture = 29
number_of TunnelHollowSpace = 30
number_of TunnelInstallation = 31
number_of TunnelPart = 32

-- the row of a type
abbrev pub row_at : ObjectType → ObjectRow
row_at o = row_numbered (number_of o)
