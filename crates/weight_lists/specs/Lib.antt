pub mod Systems
pub mod Entries
pub mod Lists
pub mod Sweeps
pub mod Answers
pub mod Steps
pub mod Laws
