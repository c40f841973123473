pub mod Sums
pub mod Times
pub mod Places
pub mod Splits
pub mod LowPowers
pub mod HighPowers
pub mod ProductDegrees
pub mod KeySums
