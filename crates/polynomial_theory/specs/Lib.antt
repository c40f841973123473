pub use Rattle.lattice_theory.specs.Vector
pub mod Sums
pub mod Series
pub mod Laws
pub mod Examples
