pub mod Interior
pub mod Around
pub mod Certificates
pub mod Beginnings
pub mod Laws
pub mod Examples
