pub mod Reports
pub mod Passing
pub mod Givings
pub mod Told
