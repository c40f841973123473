pub mod Report
pub mod Giving
pub mod Told
pub mod Laws
