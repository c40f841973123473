-- Beginnings of interior-point systems, and guides through the systems of a degree. This project's own.
use Rattle.std.specs.Prelude.{◌≡◌, ◌≢◌, ◌⊎◌, ◌↔◌, ℕ, zero, suc, ◌+◌, ◌*◌, ◌<◌, ◌≤◌, true, List, [], ◌∷◌, ◌++◌, length, map}
use Rattle.std.specs.List.{All}
use Rattle.lattice_theory.specs.Order.{Ascends}
use Rattle.walk_theory.specs.Walks.{Guide, IsTried}
use Rattle.lattice_core.specs.Weights.{Weighted, total}
use Rattle.interior_point_theory.specs.Interior.{IsInteriorPointSystem, system_of}

-- positive weights that don't descend
pub record IsBeginning (b : List ℕ) : Type 0 where
  pub positive : All (λ w. 1 ≤ w) b
  pub ascends : Ascends (λ v w. v ≤ w) b

-- The weight v may follow the beginning b as the first of k weights, if the degree is to be their sum. It isn't below those before it; k
-- weights that aren't below v have room; v takes the rest where it is the last; and k + 1 times v isn't above the degree, unless b is empty
-- and the degree is the number of weights.
pub record MayFollow (degree : ℕ) (b : List ℕ) (v k : ℕ) : Type 0 where
  pub some : 0 < k
  pub positive : 1 ≤ v
  pub ascends : All (λ w. w ≤ v) b
  pub room : total b + k * v ≤ degree
  pub last : k ≡ 1 → total b + v ≡ degree
  pub cut : (0 < length b) ⊎ (degree ≢ k) → (k + 1) * v ≤ degree

-- The guide leads through the systems of n weights and a degree: it goes from beginnings to beginnings, tries all weights that may follow,
-- keeps the interior-point systems, and gives up beginnings of none.
pub record IsWeightGuide (degree n : ℕ) (g : Guide) : Type 0 where
  pub goes_on : (b : List ℕ) (v : ℕ) → IsBeginning b → IsTried g b v → IsBeginning (b ++ v ∷ [])
  pub tries : (b : List ℕ) (v k : ℕ) → length b + k ≡ n → IsBeginning b → MayFollow degree b v k → IsTried g b v
  pub keeps : (x : List ℕ) → length x ≡ n → IsBeginning x → g.kept x ≡ true ↔ IsInteriorPointSystem (system_of degree x)
  pub spares : (b rest : List ℕ) → g.given_up b ≡ true → length (b ++ rest) ≡ n → IsInteriorPointSystem (system_of degree (b ++ rest)) → ⊥

-- the systems of k degrees from the degree d on, where f lists the weights of each
unfoldable pub by_degrees : (ℕ → List (List ℕ)) → ℕ → ℕ → List Weighted
by_degrees f d zero = []
by_degrees f d (suc k) = map (system_of d) (f d) ++ by_degrees f (suc d) k
