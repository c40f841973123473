pub mod Rows
pub mod Sets
pub mod Counts
pub mod Meets
pub mod Named
pub mod Stays
pub mod RowTests
