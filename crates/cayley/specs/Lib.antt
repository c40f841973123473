pub use Rattle.dual_pair.specs.Pairs
pub use Rattle.cayley_theory.specs.Cones
pub mod Limits
pub mod PairCones
pub mod ConeSteps
pub mod Laws
