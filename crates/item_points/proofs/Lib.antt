pub mod MatrixPoints
pub mod WeightPoints
pub mod LargeCoordinates
pub mod SingleWeights
pub mod SingleItems
pub mod LineNumbers
pub mod WeightWalks
pub mod WeightLattice
