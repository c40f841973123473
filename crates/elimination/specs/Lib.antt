pub use Rattle.lattice_theory.specs.Vector
pub use Rattle.lattice_theory.specs.Affine
pub mod Elimination
pub mod Laws
