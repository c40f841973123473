pub mod Arithmetic
pub mod Vectors
pub mod Reductions
pub mod Steps
pub mod Kernels
pub mod Pivots
pub mod AffineFunctions
pub mod FacetBounds
pub mod VertexSearch
pub mod BuilderFacts
mod TightRows
mod CandidatePoints
pub mod Growing
mod WholeHulls
mod FewerPoints
mod OuterPoints
mod SimplexFacets
mod SimplexExchange
mod SimplexSizes
mod SimplexAxes
mod SimplexTurns
mod Made
mod UnitSimplex
mod UnitSimplexSteps
mod SimplexLoop
