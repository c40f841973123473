-- What the laws on facets and vertices suppose of points. This project's own.
use Rattle.std.specs.Prelude.{ℕ, ◌<◌, List, ℤ}
use Rattle.lattice_theory.specs.Vector.{HaveDimension}
use Rattle.lattice_theory.specs.Facet.{IsFlat}

-- at least one coordinate, and points with n coordinates that aren't flat
pub record AreSolid (n : ℕ) (points : List (List ℤ)) : Type 0 where
  pub coordinates : 0 < n
  pub dimension : HaveDimension n points
  pub solid : IsFlat n points → ⊥
