pub mod Digits
pub mod Faults
pub mod Sweeping
pub mod Nefs
pub mod Options
pub mod SizeWords
