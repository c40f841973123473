pub mod FacetNormals
pub mod DualFacets
pub mod VertexFacets
pub mod DualLists
pub mod ExampleSteps
