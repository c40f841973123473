-- Hyperplanes through as many points as there are coordinates (math/0204356, section 2).
use Rattle.std.specs.Prelude.{◌≡◌, ℕ, ◌<◌, List, length, ℤ, pos, ◌<ℤ◌}
use Rattle.lattice_theory.specs.Vector.{entry}
use Rattle.lattice_theory.specs.Affine.{Affine, Vanishes, IsMultiple}
use Rattle.normal_bounds.specs.Bounds.{IsFixedBy}

-- the first entry that isn't 0 is positive
pub record StartsPositive (x : List ℤ) : Type 0 where
  pub place : ℕ
  pub positive : pos 0 <ℤ entry x place
  pub zeros : (j : ℕ) → j < place → entry x j ≡ pos 0

-- f is the only hyperplane through the points, as the function whose normal has gcd 1 and a positive first entry that isn't 0
pub record IsHyperplane (n : ℕ) (points : List (List ℤ)) (f : Affine) : Type 0 where
  pub fixed : IsFixedBy n points f
  pub starts : StartsPositive f.normal

-- two functions vanish on the points, and neither is a multiple of the other
pub record HasTwoFunctions (n : ℕ) (points : List (List ℤ)) : Type 0 where
  pub one : Affine
  pub other : Affine
  pub dimension_one : length one.normal ≡ n
  pub dimension_other : length other.normal ≡ n
  pub vanishes_one : Vanishes points one
  pub vanishes_other : Vanishes points other
  pub not_multiple : IsMultiple one other → ⊥
  pub not_multiple_back : IsMultiple other one → ⊥
