pub mod Grown
pub mod Beyond
pub mod steps
