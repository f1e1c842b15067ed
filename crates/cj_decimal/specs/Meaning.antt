pub mod Affine
pub mod Class
pub mod Decimal
pub mod Equality
pub mod Number
pub mod Reading
pub mod Signs
pub mod Spelling
