-- Sums over faces. This project's own.
use Rattle.std.specs.Prelude.{◌≡◌, ◌≢◌, ℕ, Bool, List, map, sum_by}
use Rattle.std.specs.List.{All, AllPairs, Contains}
use Rattle.face_theory.specs.Faces.{TightRelation, IsFace}

-- a face with a number
pub record CountedFace : Type 0 where
  pub set : List Bool
  pub number : ℕ

-- s is the sum of the numbers that N tells of the faces of which P holds, each of them taken once
pub record IsFaceSum (R : TightRelation) (P : List Bool → Type 0) (N : List Bool → ℕ → Type 0) (s : ℕ) : Type 0 where
  pub faces : List CountedFace
  pub once : AllPairs (λ a b. a.set ≢ b.set) faces
  pub each : All (λ c. IsFace R c.set × P c.set × N c.set c.number) faces
  pub all : (x : List Bool) → IsFace R x → P x → Contains (map (λ c. c.set) faces) x
  pub sum : sum_by (λ c. c.number) faces ≡ s
