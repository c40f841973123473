pub mod Frame
pub mod Bases
pub mod StepSizes
pub mod Laws
pub mod Answers
pub mod steps
