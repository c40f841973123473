pub mod Matrices
pub mod WeightLines
pub mod Points
pub mod WeightSteps
pub mod Laws
