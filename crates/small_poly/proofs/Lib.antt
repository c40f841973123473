pub mod Products
pub mod Coefficients
pub mod OneProduct
pub mod Laurent
pub mod AddedTerms
pub mod SmallSums
pub mod FittingTerms
mod Lines
