pub mod BitSteps
pub mod FaceLists
pub mod RowCopies
pub mod ListedFaces
pub mod TopRanks
pub mod Built
pub mod FaceCounts
