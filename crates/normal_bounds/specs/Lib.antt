pub use Rattle.lattice_theory.specs.Vector
pub use Rattle.lattice_theory.specs.Affine
pub use Rattle.lattice_theory.specs.Size
pub use Rattle.elimination.specs.Elimination
pub mod Bounds
pub mod Laws
pub mod InNumbers
