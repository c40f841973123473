pub mod Ridges
pub mod Laws
pub mod Examples
