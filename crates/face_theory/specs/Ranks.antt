-- Ranks by counting over a table of faces. This project's own.
use Rattle.std.specs.Prelude.{◌≡◌, ℕ, suc, ◌≤◌, max, Bool, cond, List, [], ◌∷◌}
use Rattle.std.specs.List.{All}
use Rattle.face_theory.specs.Sets.{set_size}

-- a face with its rank (or its corank)
pub record RankedFace : Type 0 where
  pub set : List Bool
  pub rank : ℕ

-- 1 more than the largest rank of what is less than the set in the table; 0 where nothing is
abbrev pub rank_over : (List Bool → List Bool → Bool) → List RankedFace → List Bool → ℕ
rank_over less [] set = 0
rank_over less (r ∷ table) set = cond (less r.set set) (max (suc r.rank) (rank_over less table set)) (rank_over less table set)

-- each face has the rank that it has over those behind it: the table has the last face first
abbrev pub AreRanked : (List Bool → List Bool → Bool) → List RankedFace → Type 0
AreRanked less [] = Unit {0}
AreRanked less (r ∷ before) = (r.rank ≡ rank_over less before r.set) × AreRanked less before

-- a has no more members than b, or no fewer
abbrev pub IsNoLarger : List Bool → List Bool → Type 0
IsNoLarger a b = set_size a ≤ set_size b

abbrev pub IsNoSmaller : List Bool → List Bool → Type 0
IsNoSmaller a b = set_size b ≤ set_size a

-- each face comes after those behind it
abbrev pub AreSorted : (List Bool → List Bool → Type 0) → List RankedFace → Type 0
AreSorted comes [] = Unit {0}
AreSorted comes (r ∷ before) = All (λ s. comes s.set r.set) before × AreSorted comes before
