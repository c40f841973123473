pub mod Reached
pub mod Euclid
pub mod Sums
pub mod Echelon
pub mod Places
pub mod Plain
