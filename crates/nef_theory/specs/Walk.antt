-- Guides through the nef partitions. This project's own.
use Rattle.std.specs.Prelude.{◌≡◌, ◌↔◌, ℕ, ◌<◌, ◌≤◌, true, List, length, ℤ}
use Rattle.walk_theory.specs.Walks.{Guide, IsTried}
use Rattle.nef_theory.specs.Nef.{IsGrowthList}
use Rattle.nef_theory.specs.Agreement.{HaveAgreeingPoints, IsDead}

-- the guide tries the part numbers that are used and the next one, below r; it keeps the lists with which points agree, and gives up
-- only dead beginnings
pub record IsNefGuide (vertices normals points : List (List ℤ)) (r : ℕ) (g : Guide) : Type 0 where
  pub tries_these : (b : List ℕ) (used v : ℕ) → IsGrowthList used b → IsTried g b v ↔ ((v ≤ used) × (v < r))
  pub keeps : (x : List ℕ) (used : ℕ) → length x ≡ length normals → IsGrowthList used x → g.kept x ≡ true ↔ HaveAgreeingPoints vertices normals points r x
  pub spares : (b : List ℕ) → g.given_up b ≡ true → IsDead vertices normals points r b
