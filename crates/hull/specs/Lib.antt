pub mod Hyperplanes
pub mod Faults
pub mod Built
pub mod steps
pub mod Laws
