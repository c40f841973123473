pub mod LastWeights
pub mod LevelSteps
mod Listing
mod Monomials
pub mod Sizes
