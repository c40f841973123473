-- The weights that the search takes. This project's own.
use Rattle.std.specs.Prelude.{◌≡◌, ℕ, ◌<◌, ◌≤◌, List, length}
use Rattle.std.specs.List.{All}
use Rattle.lattice_core.specs.Weights.{total}
use Rattle.weight_enum.specs.declared.weights.TheConstants.{MOST_DEGREE_OF_FIVE, MOST_DEGREE_OF_SIX}

-- so many weights, 2 to 6, and a degree that isn't above its limit
pub record AreSearched (degree count : ℕ) : Type 0 where
  pub some : 1 < count
  pub few : count ≤ 6
  pub limit : degree ≤ MOST_DEGREE_OF_FIVE
  pub limit_of_six : count ≡ 6 → degree ≤ MOST_DEGREE_OF_SIX

-- such weights, each at least 1, with the degree as their sum
pub record AreTaken (degree : ℕ) (weights : List ℕ) : Type 0 where
  pub searched : AreSearched degree (length weights)
  pub positive : All (λ w. 1 ≤ w) weights
  pub sum : total weights ≡ degree
