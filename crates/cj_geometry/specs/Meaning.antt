pub mod Geometry
pub mod Lod
pub mod Numbers
pub mod ObjectTypes
pub mod Rule
pub mod Table
