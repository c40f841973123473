-- Points beyond facets: those at which a facet is negative. This project's own.
use Rattle.std.specs.Prelude.{ℕ, ◌<◌, ◌≤◌, List, length, ℤ, pos, ◌≤ℤ◌, ◌<ℤ◌}
use Rattle.std.specs.List.{All, AllWithin, HoldsAt}
use Rattle.lattice_theory.specs.Affine.{Affine, value, IsNonnegative}

-- the point at the place lies beyond f, and none lies farther beyond it
pub record IsFarthest (f : Affine) (points : List (List ℤ)) (place : ℕ) : Type 0 where
  pub within : place < length points
  pub beyond : HoldsAt (λ p. value f p <ℤ pos 0) points place
  pub farthest : HoldsAt (λ p. All (λ q. value f p ≤ℤ value f q) points) points place

-- the function at the place facet is the first, from a place on, that has points beyond it, and that at the place point is the farthest of them
pub record IsFirstBeyond (functions : List Affine) (points : List (List ℤ)) (from facet point : ℕ) : Type 0 where
  pub later : from ≤ facet
  pub within : facet < length functions
  pub before : AllWithin (IsNonnegative points) functions from facet
  pub farthest : HoldsAt (λ f. IsFarthest f points point) functions facet
