pub mod ItemSteps
pub mod SingleKinds
