-- The law on the size of facets, as a statement.
use Rattle.std.specs.Prelude.{ℕ, List, ℤ}
use Rattle.lattice_theory.specs.Affine.{Affine}
use Rattle.lattice_theory.specs.Size.{size}
use Rattle.lattice_theory.specs.Facet.{IsFacet}
use Rattle.facet_theory.specs.Solid.{AreSolid}
use Rattle.lattice_core.specs.ValueWidths.{IsWithin}

-- each facet of points that aren't flat has a normal with entries of at most (2S)^(n-1) and a constant of at most (2S)^(n-1) S, for their
-- size S
abbrev pub FacetsBounded : Type 0
FacetsBounded = (n : ℕ) (points : List (List ℤ)) → AreSolid n points → (f : Affine) → IsFacet n points f → IsWithin n (size n points) f
