pub mod Bits
pub mod Pools
pub mod Changes
pub mod Laws
pub mod steps
