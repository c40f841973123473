pub mod Texts
pub mod Notes
pub mod Blocks
pub mod Lists
pub mod Partitions
pub mod Pages
pub mod Examples
