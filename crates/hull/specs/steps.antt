pub mod Kernels
pub mod Differences
pub mod Tight
pub mod Candidates
pub mod Growing
pub mod Simplex
pub mod Facing
pub mod Widths
