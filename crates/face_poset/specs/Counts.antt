-- How many faces of each rank a relation has. This project's own.
use Rattle.std.specs.Prelude.{◌≡◌, ◌≢◌, ◌↔◌, ℕ, ◌+◌, ◌<◌, Bool, List, length, slice_index_or}
use Rattle.std.specs.List.{AllPairs, Contains}
use Rattle.face_theory.specs.Faces.{TightRelation, IsFace, IsRank}

-- so many faces have the rank: they are listed, each once
pub record IsFaceCount (R : TightRelation) (rank count : ℕ) : Type 0 where
  pub faces : List (List Bool)
  pub are_faces : (set : List Bool) → Contains faces set ↔ (IsFace R set × IsRank R set rank)
  pub apart : AllPairs (λ a b. a ≢ b) faces
  pub count_is : count ≡ length faces

-- The numbers of faces of the ranks 1 to n, in order. In a polytope of dimension n a face's rank is one more than its dimension, so these are
-- the numbers of faces of dimension 0 to n - 1
pub record AreFaceCounts (R : TightRelation) (n : ℕ) (counts : List ℕ) : Type 0 where
  pub many : length counts ≡ n
  pub each : (k : ℕ) → k < n → IsFaceCount R (k + 1) (slice_index_or counts k 0)
