-- Points that can be vertices. This project's own.
use Rattle.std.specs.Prelude.{◌≡◌, ◌⊎◌, ℕ, List, ℤ}
use Rattle.std.specs.List.{All, Any, Contains}
use Rattle.lattice_theory.specs.Affine.{Affine}
use Rattle.bit_rows.specs.Rows.{IsPartOf}
use Rattle.hull.specs.declared.candidates.Candidate.{Candidate}
use Rattle.hull.specs.steps.Tight.{LiesWith, IsTightRow}

-- the candidate is the point p, whose row this is, or has each number of the row and another one
abbrev pub IsAbove : ℕ → List ℤ → Candidate → Type 0
IsAbove row p c = IsPartOf row c.row × ((IsPartOf c.row row → ⊥) ⊎ (c.point ≡ p))

-- no other candidate has each number of the candidate's row
abbrev pub IsLone : List Candidate → Candidate → Type 0
IsLone candidates c = All (λ d. IsPartOf c.row d.row → d.point ≡ c.point) candidates

-- the candidate lies on each function on which p lies, and is p or lies on another one, too
abbrev pub LiesAbove : List Affine → List ℤ → Candidate → Type 0
LiesAbove functions p c = LiesWith functions p c.point × ((LiesWith functions c.point p → ⊥) ⊎ (c.point ≡ p))

-- each candidate is one of the points with the row of the functions on which it lies, and above each point there is a candidate
pub record AreCandidates (functions : List Affine) (points : List (List ℤ)) (candidates : List Candidate) : Type 0 where
  pub members : All (λ c. Contains points c.point) candidates
  pub rows : All (λ c. IsTightRow functions c.point c.row) candidates
  pub covered : All (λ p. Any (LiesAbove functions p) candidates) points
