pub mod Faces
pub mod Counts
pub mod Builds
pub mod ListSteps
pub mod RowSteps
pub mod TableSteps
pub mod Laws
