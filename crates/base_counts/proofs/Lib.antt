pub mod TopSteps
pub mod Degrees
pub mod Added
pub mod BaseLaws
pub mod Visited
pub mod Words
