pub mod Given
pub mod Grammar
pub mod ListSteps
pub mod Lods
pub mod Lone
pub mod Meaning
pub mod ObjectTypes
pub mod inner
