pub mod Lines
pub mod LayoutExamples
