pub mod Items
pub mod Partitions
pub mod Answers
pub mod Laws
