pub mod CityObject
pub mod Feature
pub mod Header
pub mod Links
pub mod Reachable
pub mod Reached
pub mod Relations
pub mod Transform
