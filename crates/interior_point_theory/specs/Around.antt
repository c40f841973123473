-- Points around the origin, and the points of exponent vectors without their first coordinate. This project's own.
use Rattle.std.specs.Prelude.{◌≡◌, ◌↔◌, ℕ, ◌+◌, ◌<◌, ◌≤◌, List, [], ◌∷◌, length, ℤ, pos, ◌<ℤ◌, ◌≤ℤ◌}
use Rattle.std.specs.List.{All, Contains}
use Rattle.lattice_theory.specs.Vector.{entry, dot}
use Rattle.lattice_theory.specs.Affine.{Affine}
use Rattle.lattice_theory.specs.Facet.{IsFlat, IsFacet}
use Rattle.lattice_core.specs.Weights.{Weighted, IsMonomial, IsSummed, monomial_point}

-- the origin is in the interior of the points' hull: they aren't flat, and each facet has a positive constant
pub record AreAround (n : ℕ) (points : List (List ℤ)) : Type 0 where
  pub solid : IsFlat n points → ⊥
  pub constants : (f : Affine) → IsFacet n points f → pos 0 <ℤ f.constant

-- of the linear functions with integer coefficients only 0 is nonnegative on the points
abbrev pub OnlyZeroIsNonnegative : ℕ → List (List ℤ) → Type 0
OnlyZeroIsNonnegative n points = (f : List ℤ) → length f ≡ n → ((y : List ℤ) → Contains points y → pos 0 ≤ℤ dot f y)
    → (i : ℕ) → entry f i ≡ pos 0

-- y is a tail of the system: the point of an exponent vector, without its first coordinate
pub record IsTail (system : Weighted) (y : List ℤ) : Type 0 where
  pub first : ℤ
  pub later : List ℤ
  pub monomial : IsMonomial (system ∷ []) (first ∷ later)
  pub same : y ≡ monomial_point later

-- a system of n + 1 positive weights with the degree as their sum, n at least 1, and the list of its tails, in any order
pub record HasTails (n : ℕ) (system : Weighted) (tails : List (List ℤ)) : Type 0 where
  pub some : 0 < n
  pub positive : All (λ w. 1 ≤ w) system.weights
  pub summed : IsSummed (n + 1) system
  pub members : (y : List ℤ) → Contains tails y ↔ IsTail system y
