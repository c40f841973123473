pub mod Bits
pub mod Added
pub mod SmallValues
pub mod Telling
pub mod Held
