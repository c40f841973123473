pub mod Rows
pub mod Tables
pub mod Beginnings
pub mod Agreeing
pub mod Completions
pub mod Nef
pub mod Searches
