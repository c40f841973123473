pub mod Lists
pub mod Partitions
pub mod Listing
pub mod Given
pub mod Laws
pub mod steps
