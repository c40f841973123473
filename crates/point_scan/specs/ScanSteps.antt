-- The box of a dilate, and the test of the facets. This project's own.
use Rattle.std.specs.Prelude.{◌≡◌, ℕ, ◌<◌, ◌≤◌, ◌^◌, Bool, List, length, ℤ, pos, nat_abs, ◌*ℤ◌, ◌≤ℤ◌, int_le}
use Rattle.std.specs.List.{All, list_all}
use Rattle.lattice_theory.specs.Vector.{entry}
use Rattle.lattice_theory.specs.Affine.{Affine, value_over}
use Rattle.lattice_theory.specs.Size.{reach, absolute_sum}
use Rattle.lattice_theory.specs.Points.{IsDilatePoint}
use Rattle.region_walk.specs.Regions.{IsInRegion, IsSoundRegion}
use Rattle.region_walk.specs.declared.region.Region.{Region}
use Rattle.region_walk.specs.declared.walk.RegionWalk.{RegionWalk}

-- the coordinate i of each point is from low to high, and neither is larger than the largest absolute value in that coordinate
pub record IsSpan (points : List (List ℤ)) (i : ℕ) (low high : ℤ) : Type 0 where
  pub within : All (λ p. (low ≤ℤ entry p i) × (entry p i ≤ℤ high)) points
  pub ordered : low ≤ℤ high
  pub small_low : nat_abs low ≤ reach points i
  pub small_high : nat_abs high ≤ reach points i

-- from low to high is j times such a span
pub record IsDilateSpan (points : List (List ℤ)) (j i : ℕ) (low high : ℤ) : Type 0 where
  pub lowest : ℤ
  pub highest : ℤ
  pub spans : IsSpan points i lowest highest
  pub low_is : low ≡ pos j *ℤ lowest
  pub high_is : high ≡ pos j *ℤ highest

-- the corners of a box with n coordinates that holds j times the points
pub record AreCorners (n : ℕ) (points : List (List ℤ)) (j : ℕ) (low high : List ℤ) : Type 0 where
  pub low_dimension : length low ≡ n
  pub high_dimension : length high ≡ n
  pub spans : (i : ℕ) → i < n → IsDilateSpan points j i (entry low i) (entry high i)

-- whether each function, its constant taken j times, is nonnegative at x
abbrev pub is_inside : List Affine → ℕ → List ℤ → Bool
is_inside functions j x = list_all (λ f. int_le (pos 0) (value_over f x (pos j))) functions

-- the region has each lattice point of the j-th dilate, and at all its points these functions, their constants taken j times, are nonnegative
pub record HoldsDilate (n : ℕ) (points : List (List ℤ)) (j : ℕ) (functions : List Affine) (region : Region) : Type 0 where
  pub sound : IsSoundRegion region
  pub dimension : length region.low ≡ n
  pub small : (x : List ℤ) → IsInRegion region x → absolute_sum x ≤ 2 ^ 33
  pub inside : (x : List ℤ) → IsInRegion region x → All (λ f. pos 0 ≤ℤ value_over f x (pos j)) functions
  pub all : (x : List ℤ) → IsDilatePoint n points j x → IsInRegion region x

-- the points of the run are small
abbrev pub HasSmallRun : RegionWalk → Type 0
HasSmallRun w = (x : List ℤ) → IsInRegion w.region x → absolute_sum x ≤ 2 ^ 33
