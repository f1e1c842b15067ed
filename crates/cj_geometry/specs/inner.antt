pub mod Form
pub mod GeometryParts
pub mod Names
pub mod TemplateLods
pub mod TreeSet
pub mod WordedNames
