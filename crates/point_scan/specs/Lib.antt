pub mod Dilates
pub mod ScanSteps
pub mod ProjectionSteps
pub mod Faults
pub mod Visits
