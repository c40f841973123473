-- What the combination of two functions at a point is worked out under. This project's own.
use Rattle.std.specs.Prelude.{◌≡◌, ◌⊎◌, ℕ, ◌*◌, ◌^◌, ◌-◌, ◌≤◌, List, length, ℤ, pos, ◌<ℤ◌, nat_abs}
use Rattle.lattice_theory.specs.Vector.{HaveDimension}
use Rattle.lattice_theory.specs.Affine.{Affine, value}
use Rattle.lattice_theory.specs.Combinations.{IsCombinationAt}
use Rattle.normal_bounds.specs.Bounds.{EntriesWithin, IsFixedBy}
use Rattle.lattice_core.specs.Limits.{size_limit_of, IsSized}

-- one is positive and the other is negative
abbrev pub AreOpposite : ℤ → ℤ → Type 0
AreOpposite a b = ((pos 0 <ℤ a) × (b <ℤ pos 0)) ⊎ ((a <ℤ pos 0) × (pos 0 <ℤ b))

-- twice the size limit of points with n coordinates
abbrev pub twice_limit : ℕ → ℕ
twice_limit n = 2 * size_limit_of n

-- a function and its value at the point are as small as those of functions that points within the size limit fix
pub record IsSmallAt (p : List ℤ) (f : Affine) : Type 0 where
  pub dimension : length f.normal ≡ length p
  pub entries : EntriesWithin (twice_limit (length p) ^ (length p - 1)) f.normal
  pub at_point : nat_abs (value f p) ≤ twice_limit (length p) ^ length p

-- n points within the size limit fix h: it vanishes at them, and they lie on no other hyperplane
pub record IsFixedWithinLimit (n : ℕ) (h : Affine) : Type 0 where
  pub points : List (List ℤ)
  pub count : length points ≡ n
  pub dimension : HaveDimension n points
  pub small : IsSized n points
  pub fixed : IsFixedBy n points h

-- f and g have a combination at p, and n points within the size limit fix it
pub record HasFixedCombination (f g : Affine) (p : List ℤ) : Type 0 where
  pub function : Affine
  pub combination : IsCombinationAt f g p function
  pub fixed : IsFixedWithinLimit (length p) function
