pub mod Rows
pub mod Growing
pub mod Farthest
pub mod Values
