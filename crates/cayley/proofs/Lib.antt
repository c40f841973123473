pub mod KeptVectors
pub mod VectorSteps
pub mod Tables
pub mod PairFacts
pub mod ConeMade
pub mod TopRanks
mod FoundPartitions
pub mod PolytopeSide
pub mod DualSide
