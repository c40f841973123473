pub mod Spans
pub mod Beginnings
pub mod Looks
