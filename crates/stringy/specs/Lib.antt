pub use Rattle.lattice_theory.specs.Vector
pub use Rattle.polynomial_theory.specs.Sums
pub use Rattle.stringy_theory.specs.HStar
pub mod Numbers
pub mod RowSteps
pub mod ConeNumbers
pub mod StarSteps
pub mod Examples
