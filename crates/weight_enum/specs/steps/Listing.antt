-- The listing of the systems of a degree. This project's own.
use Rattle.std.specs.Prelude.{◌≡◌, ℕ, zero, suc, ◌+◌, ◌/◌, ◌<◌, ◌≤◌, List, ◌++◌, length, map, take}
use Rattle.std.specs.List.{All}
use Rattle.lattice_theory.specs.Order.{Lists}
use Rattle.lattice_core.specs.Weights.{Weighted, total}
use Rattle.walk_theory.specs.Walks.{NumbersLess}
use Rattle.weight_tails.specs.steps.Levels.{AreLevels}
use Rattle.interior_point_theory.specs.Beginnings.{IsBeginning, MayFollow}
use Rattle.interior_point_theory.specs.Interior.{IsInteriorPointSystem, system_of}

-- x is a list of n numbers with the beginning b, and the weights of an interior-point system of the degree
pub record IsCompleted (degree n : ℕ) (b x : List ℕ) : Type 0 where
  pub rest : List ℕ
  pub is : x ≡ b ++ rest
  pub places : length x ≡ n
  pub holds : IsInteriorPointSystem (system_of degree x)

-- behind the old systems stand those of all such lists, each once, in order
abbrev pub AddsSystems : (List ℕ → Type 0) → ℕ → List Weighted → List Weighted → Type 0
AddsSystems P degree old new = (xs : List (List ℕ)) × (new ≡ old ++ map (system_of degree) xs) × Lists NumbersLess P xs

-- the beginning b has so many weights, of n, and leaves the rest of the degree: nothing where it has all. No weight below the least may follow it
pub record IsReady (degree n : ℕ) (b : List ℕ) (place least rest : ℕ) : Type 0 where
  pub within : place ≤ n
  pub columns : length b ≡ place
  pub beginning : IsBeginning b
  pub positive : 1 ≤ least
  pub ascends : All (λ w. w ≤ least) b
  pub is_least : (v k : ℕ) → MayFollow degree b v k → least ≤ v
  pub leaves : total b + rest ≡ degree
  pub whole : place ≡ n → rest ≡ 0

-- as much as so many weights behind a beginning take at most: the last of them at most half the degree, the one before it a third, and so on
abbrev pub most_behind : ℕ → ℕ → ℕ
most_behind degree zero = 0
most_behind degree (suc k) = degree / (k + 2) + most_behind degree k

-- the first weight that is tried behind a beginning of so many weights: at least the least, so much that those behind it can take the rest, and
-- all of the rest where it is the last
pub record IsFirst (degree n place least rest first : ℕ) : Type 0 where
  pub above : least ≤ first
  pub takes : place + 1 ≡ n → rest ≤ first
  pub is_first : (v k : ℕ) → least ≤ v → place + suc k ≡ n → rest ≤ v + most_behind degree k → first ≤ v

-- no weight above the most may follow a beginning of so many weights that leaves the rest
abbrev pub IsMost : ℕ → ℕ → ℕ → ℕ → ℕ → Type 0
IsMost n degree place rest most = (b : List ℕ) (v k : ℕ) → length b ≡ place → place + k ≡ n → total b + rest ≡ degree → MayFollow degree b v k → v ≤ most

-- the levels are those of the first weights, up to so many, but not of all
abbrev pub ServeTo : ℕ → List ℕ → List ℕ → Type 0
ServeTo place weights levels = (k : ℕ) → k ≤ place → k < length weights → AreLevels (take k weights) levels
