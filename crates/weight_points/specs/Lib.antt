pub mod Members
pub mod steps
pub mod Listing
pub mod Laws
