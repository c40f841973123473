-- Guided walks: lists of numbers are made place by place, and beginnings that lead nowhere are given up. This project's own.
use Rattle.std.specs.Prelude.{◌≡◌, ◌↔◌, ℕ, zero, suc, ◌+◌, ◌<◌, ◌≤◌, Bool, true, cond, List, [], ◌∷◌, ◌++◌, length, map, pos}
use Rattle.lattice_theory.specs.Order.{LexLess}

-- lists of numbers in lexicographic order
abbrev pub NumbersLess : List ℕ → List ℕ → Type 0
NumbersLess x y = LexLess (map pos x) (map pos y)

-- the lists f v, f (v + 1), .., k of them, one behind another
unfoldable pub in_turn : (ℕ → List (List ℕ)) → ℕ → ℕ → List (List ℕ)
in_turn f v zero = []
in_turn f v (suc k) = f v ++ in_turn f (suc v) k

-- what leads a walk: behind a beginning so many numbers are tried, from the first one on; which beginnings are given up; and which
-- lists are kept in the end
pub record Guide : Type 0 where
  pub first : List ℕ → ℕ
  pub count : List ℕ → ℕ
  pub given_up : List ℕ → Bool
  pub kept : List ℕ → Bool

-- the lists that the guide keeps, of those that begin with b and have so many more places
unfoldable pub walk : Guide → ℕ → List ℕ → List (List ℕ)
walk g zero b = cond (g.kept b) (b ∷ []) []
walk g (suc places) b = cond (g.given_up b) [] (in_turn (λ v. walk g places (b ++ v ∷ [])) (g.first b) (g.count b))

-- the guide tries the number v behind the beginning b
pub record IsTried (g : Guide) (b : List ℕ) (v : ℕ) : Type 0 where
  pub low : g.first b ≤ v
  pub high : v < g.first b + g.count b

-- The guide loses no list of n numbers of which P holds, and keeps no other. Reached holds of all beginnings to which it leads, and of the
-- lists of n numbers among these it keeps exactly those of which P holds; each number that goes on to such a list is tried, and no beginning
-- of such a list is given up.
pub record LosesNone (P Reached : List ℕ → Type 0) (n : ℕ) (g : Guide) : Type 0 where
  pub starts : Reached []
  pub goes_on : (b : List ℕ) (v : ℕ) → Reached b → IsTried g b v → Reached (b ++ v ∷ [])
  pub keeps : (x : List ℕ) → length x ≡ n → Reached x → g.kept x ≡ true ↔ P x
  pub tries : (b : List ℕ) (v : ℕ) (rest : List ℕ) → length (b ++ v ∷ rest) ≡ n → Reached b → P (b ++ v ∷ rest) → IsTried g b v
  pub spares : (b rest : List ℕ) → g.given_up b ≡ true → length (b ++ rest) ≡ n → P (b ++ rest) → ⊥

-- a list of n numbers of which P holds
pub record IsSought (P : List ℕ → Type 0) (n : ℕ) (x : List ℕ) : Type 0 where
  pub places : length x ≡ n
  pub holds : P x
