pub mod Affine
pub mod FewDigits
pub mod Meaning
pub mod Rows
pub mod Word
pub mod inner
