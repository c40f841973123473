pub mod Taken
pub mod Systems
pub mod Searched
pub mod Laws
pub mod steps
