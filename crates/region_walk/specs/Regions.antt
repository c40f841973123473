-- Regions: the integer vectors of a box at which affine functions are nonnegative (math/0204356, section 2: a polytope is an intersection
-- of half spaces). The levels of functions are this project's own.
use Rattle.std.specs.Prelude.{◌≡◌, ℕ, ◌^◌, ◌<◌, ◌≤◌, List, [], length, map, ℤ, pos, nat_abs, ◌≤ℤ◌, slice_index_or}
use Rattle.std.specs.List.{All}
use Rattle.lattice_theory.specs.Vector.{entry}
use Rattle.lattice_theory.specs.Affine.{Affine, value}
use Rattle.lattice_theory.specs.Size.{absolute_sum}
use Rattle.lattice_theory.specs.Grid.{IsInBox}
use Rattle.lattice_core.specs.declared.limits.TheConstants.{MOST_COORDINATES}
use Rattle.region_walk.specs.declared.region.Region.{Region}

-- the functions of the level k
abbrev pub level : List (List Affine) → ℕ → List Affine
level levels k = slice_index_or levels k []

-- x is in the box, and no function of any level is negative there
pub record IsInside (low high : List ℤ) (levels : List (List Affine)) (x : List ℤ) : Type 0 where
  pub inside : IsInBox low high x
  pub nonnegative : (k : ℕ) → k < length x → All (λ f. pos 0 ≤ℤ value f x) (level levels k)

-- the functions of a region, by levels
abbrev pub levels_of : Region → List (List Affine)
levels_of region = map (λ functions. functions.items) region.levels.items

-- x is in the region
abbrev pub IsInRegion : Region → List ℤ → Type 0
IsInRegion region x = IsInside region.low region.high (levels_of region) x

-- a function of n coordinates that has no factor behind the place k, with a constant that is small enough
pub record IsOfLevel (n k : ℕ) (f : Affine) : Type 0 where
  pub dimension : length f.normal ≡ n
  pub ends : (j : ℕ) → k < j → entry f.normal j ≡ pos 0
  pub small : nat_abs f.constant ≤ 2 ^ 103

-- a box with n coordinates, one level for each, with functions that end there
pub record AreLevels (low high : List ℤ) (levels : List (List Affine)) : Type 0 where
  pub high_dimension : length high ≡ length low
  pub one_each : length levels ≡ length low
  pub least : 1 ≤ length low
  pub most : length low ≤ MOST_COORDINATES
  pub ordered : (i : ℕ) → i < length low → entry low i ≤ℤ entry high i
  pub small_low : absolute_sum low ≤ 2 ^ 33
  pub small_high : absolute_sum high ≤ 2 ^ 33
  pub functions : (k : ℕ) → k < length low → All (IsOfLevel (length low) k) (level levels k)

-- the region is sound
abbrev pub IsSoundRegion : Region → Type 0
IsSoundRegion region = AreLevels region.low region.high (levels_of region)
