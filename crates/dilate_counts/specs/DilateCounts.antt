-- How many points of a dilate have a base of a degree that is 0 on a set. This project's own.
use Rattle.std.specs.Prelude.{◌≡◌, ℕ, ◌*◌, ◌≤◌, List, length, ℤ}
use Rattle.std.specs.List.{All}
use Rattle.lattice_theory.specs.Affine.{Affine}
use Rattle.lattice_core.specs.Dimensions.{dimension_of}
use Rattle.point_scan.specs.Dilates.{AreDilatePoints}
use Rattle.base_counts.specs.Visited.{AreCountsOf}
use Rattle.base_counts.specs.declared.counts.TheConstants.{DEGREES}
use Rattle.dilate_counts.specs.declared.limits.TheConstants.{MOST_COUNTED}

-- the dilate has no more lattice points than are counted
abbrev pub HasFewPoints : List (List ℤ) → ℕ → Type 0
HasFewPoints vertices dilate = (points : List (List ℤ)) → AreDilatePoints (dimension_of vertices) vertices dilate points → length points ≤ MOST_COUNTED

-- for each set and degree, the number of the dilate's lattice points whose base has the degree and is 0 on the set: set by set, and degree by degree
-- for each set
pub record AreDilateCounts (r : ℕ) (vectors : List Affine) (rows : List (List ℕ)) (vertices : List (List ℤ)) (dilate : ℕ) (counts : List ℕ) : Type 0 where
  pub points : List (List ℤ)
  pub are_points : AreDilatePoints (dimension_of vertices) vertices dilate points
  pub counts_are : AreCountsOf r vectors rows points counts
  pub whole : length counts ≡ length rows * DEGREES
  pub few : All (λ count. count ≤ MOST_COUNTED) counts
