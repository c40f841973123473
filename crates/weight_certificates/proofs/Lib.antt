pub mod Sums
pub mod Surrounding
mod Checks
mod Refuting
mod TestSizes
