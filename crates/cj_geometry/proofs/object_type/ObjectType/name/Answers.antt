use Rattle.cj_geometry.specs.Meaning.ObjectTypes.{object_types}
use Rattle.cj_geometry.proofs.Values.{of-self}
use Rattle.cj_geometry.proofs.object_type.ObjectType.name.Goals as goal

pub returns-in-Bridge-clause-only : goal.returns-in-Bridge-clause-only
unfolding object_types
returns-in-Bridge-clause-only c t h = of-self t c.in-Bridge.is h

pub returns-in-Building-clause-only : goal.returns-in-Building-clause-only
unfolding object_types
returns-in-Building-clause-only c t h = of-self t c.in-Building.is h

pub returns-in-CityFurniture-clause-only : goal.returns-in-CityFurniture-clause-only
unfolding object_types
returns-in-CityFurniture-clause-only c t h = of-self t c.in-CityFurniture.is h

pub returns-in-CityObjectGroup-clause-only : goal.returns-in-CityObjectGroup-clause-only
unfolding object_types
returns-in-CityObjectGroup-clause-only c t h = of-self t c.in-CityObjectGroup.is h

pub returns-in-GenericCityObject-clause-only : goal.returns-in-GenericCityObject-clause-only
unfolding object_types
returns-in-GenericCityObject-clause-only c t h = of-self t c.in-GenericCityObject.is h

pub returns-in-LandUse-clause-only : goal.returns-in-LandUse-clause-only
unfolding object_types
returns-in-LandUse-clause-only c t h = of-self t c.in-LandUse.is h

pub returns-in-OtherConstruction-clause-only : goal.returns-in-OtherConstruction-clause-only
unfolding object_types
returns-in-OtherConstruction-clause-only c t h = of-self t c.in-OtherConstruction.is h

pub returns-in-PlantCover-clause-only : goal.returns-in-PlantCover-clause-only
unfolding object_types
returns-in-PlantCover-clause-only c t h = of-self t c.in-PlantCover.is h

pub returns-in-Railway-clause-only : goal.returns-in-Railway-clause-only
unfolding object_types
returns-in-Railway-clause-only c t h = of-self t c.in-Railway.is h

pub returns-in-Road-clause-only : goal.returns-in-Road-clause-only
unfolding object_types
returns-in-Road-clause-only c t h = of-self t c.in-Road.is h

pub returns-in-SolitaryVegetationObject-clause-only : goal.returns-in-SolitaryVegetationObject-clause-only
unfolding object_types
returns-in-SolitaryVegetationObject-clause-only c t h = of-self t c.in-SolitaryVegetationObject.is h

pub returns-in-TINRelief-clause-only : goal.returns-in-TINRelief-clause-only
unfolding object_types
returns-in-TINRelief-clause-only c t h = of-self t c.in-TINRelief.is h

pub returns-in-TransportSquare-clause-only : goal.returns-in-TransportSquare-clause-only
unfolding object_types
returns-in-TransportSquare-clause-only c t h = of-self t c.in-TransportSquare.is h

pub returns-in-Tunnel-clause-only : goal.returns-in-Tunnel-clause-only
unfolding object_types
returns-in-Tunnel-clause-only c t h = of-self t c.in-Tunnel.is h

pub returns-in-WaterBody-clause-only : goal.returns-in-WaterBody-clause-only
unfolding object_types
returns-in-WaterBody-clause-only c t h = of-self t c.in-WaterBody.is h

pub returns-in-Waterway-clause-only : goal.returns-in-Waterway-clause-only
unfolding object_types
returns-in-Waterway-clause-only c t h = of-self t c.in-Waterway.is h

pub returns-in-BridgeConstructiveElement-clause-only : goal.returns-in-BridgeConstructiveElement-clause-only
unfolding object_types
returns-in-BridgeConstructiveElement-clause-only c t h = of-self t c.in-BridgeConstructiveElement.is h

pub returns-in-BridgeFurniture-clause-only : goal.returns-in-BridgeFurniture-clause-only
unfolding object_types
returns-in-BridgeFurniture-clause-only c t h = of-self t c.in-BridgeFurniture.is h

pub returns-in-BridgeInstallation-clause-only : goal.returns-in-BridgeInstallation-clause-only
unfolding object_types
returns-in-BridgeInstallation-clause-only c t h = of-self t c.in-BridgeInstallation.is h

pub returns-in-BridgePart-clause-only : goal.returns-in-BridgePart-clause-only
unfolding object_types
returns-in-BridgePart-clause-only c t h = of-self t c.in-BridgePart.is h

pub returns-in-BridgeRoom-clause-only : goal.returns-in-BridgeRoom-clause-only
unfolding object_types
returns-in-BridgeRoom-clause-only c t h = of-self t c.in-BridgeRoom.is h

pub returns-in-BuildingConstructiveElement-clause-only : goal.returns-in-BuildingConstructiveElement-clause-only
unfolding object_types
returns-in-BuildingConstructiveElement-clause-only c t h = of-self t c.in-BuildingConstructiveElement.is h

pub returns-in-BuildingFurniture-clause-only : goal.returns-in-BuildingFurniture-clause-only
unfolding object_types
returns-in-BuildingFurniture-clause-only c t h = of-self t c.in-BuildingFurniture.is h

pub returns-in-BuildingInstallation-clause-only : goal.returns-in-BuildingInstallation-clause-only
unfolding object_types
returns-in-BuildingInstallation-clause-only c t h = of-self t c.in-BuildingInstallation.is h

pub returns-in-BuildingPart-clause-only : goal.returns-in-BuildingPart-clause-only
unfolding object_types
returns-in-BuildingPart-clause-only c t h = of-self t c.in-BuildingPart.is h

pub returns-in-BuildingRoom-clause-only : goal.returns-in-BuildingRoom-clause-only
unfolding object_types
returns-in-BuildingRoom-clause-only c t h = of-self t c.in-BuildingRoom.is h

pub returns-in-BuildingStorey-clause-only : goal.returns-in-BuildingStorey-clause-only
unfolding object_types
returns-in-BuildingStorey-clause-only c t h = of-self t c.in-BuildingStorey.is h

pub returns-in-BuildingUnit-clause-only : goal.returns-in-BuildingUnit-clause-only
unfolding object_types
returns-in-BuildingUnit-clause-only c t h = of-self t c.in-BuildingUnit.is h

pub returns-in-TunnelConstructiveElement-clause-only : goal.returns-in-TunnelConstructiveElement-clause-only
unfolding object_types
returns-in-TunnelConstructiveElement-clause-only c t h = of-self t c.in-TunnelConstructiveElement.is h

pub returns-in-TunnelFurniture-clause-only : goal.returns-in-TunnelFurniture-clause-only
unfolding object_types
returns-in-TunnelFurniture-clause-only c t h = of-self t c.in-TunnelFurniture.is h

pub returns-in-TunnelHollowSpace-clause-only : goal.returns-in-TunnelHollowSpace-clause-only
unfolding object_types
returns-in-TunnelHollowSpace-clause-only c t h = of-self t c.in-TunnelHollowSpace.is h

pub returns-in-TunnelInstallation-clause-only : goal.returns-in-TunnelInstallation-clause-only
unfolding object_types
returns-in-TunnelInstallation-clause-only c t h = of-self t c.in-TunnelInstallation.is h

pub returns-in-TunnelPart-clause-only : goal.returns-in-TunnelPart-clause-only
unfolding object_types
returns-in-TunnelPart-clause-only c t h = of-self t c.in-TunnelPart.is h
