pub use Rattle.lattice_theory.specs.Vector
pub use Rattle.polynomial_theory.specs.Series
pub mod Sizes
pub mod Tables
pub mod TermSteps
pub mod Laws
