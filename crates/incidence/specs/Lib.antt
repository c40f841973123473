pub mod Incidences
pub mod RowSteps
pub mod Laws
