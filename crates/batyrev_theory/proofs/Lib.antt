pub mod InteriorLists
pub mod SingleSums
pub mod TableSums
pub mod SingleNumbers
pub mod AllFaces
