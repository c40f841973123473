pub mod PartPoints
pub mod VertexSums
pub mod ConeVectors
pub mod ConeCounts
pub mod ExampleSteps
pub mod Raised
pub mod BasePoints
pub mod EachBase
pub mod Summed
pub mod PairSums
mod BaseExample
