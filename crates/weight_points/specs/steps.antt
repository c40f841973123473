pub mod Waits
pub mod Rows
pub mod Search
