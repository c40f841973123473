-- The search for the point that lies farthest beyond a function. This project's own.
use Rattle.std.specs.Prelude.{◌≡◌, ℕ, ◌<◌, List, ℤ, pos, ◌≤ℤ◌, ◌<ℤ◌, MatchOption, Option}
use Rattle.std.specs.List.{AllWithin, HoldsAt}
use Rattle.lattice_theory.specs.Affine.{Affine, value}

-- of the first i points the one at the place has the least value, which is below 0; without a place no value is below 0
pub record IsFarthestSoFar (f : Affine) (points : List (List ℤ)) (i : ℕ) (place : Option ℕ) (least : ℤ) : Type 0 where
  pub values : AllWithin (λ p. least ≤ℤ value f p) points 0 i
  pub taken : MatchOption place (least ≡ pos 0) (λ k. (k < i) × (least <ℤ pos 0) × HoldsAt (λ p. value f p ≡ least) points k)
