pub mod Atom
pub mod Decoding
pub mod Machine
pub mod Noted
pub mod Pass
pub mod Wholes
