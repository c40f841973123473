pub use Rattle.cayley.specs.PairCones
pub use Rattle.cayley_theory.specs.Counts
pub use Rattle.face_poset.specs.Faces
pub mod FaceCounts
pub mod Limits
pub mod CountSteps
pub mod Examples
