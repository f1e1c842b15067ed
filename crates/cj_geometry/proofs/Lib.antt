pub mod Common
pub mod Arrays
pub mod Distinct
pub mod Numbers
pub mod Names
pub mod Values
pub mod Rooms
