-- Worked examples: the counts of the segment from -1 to 1 with both normals in one part. Its cone's faces are the apex, two rays and the cone. This
-- project's own.
use Rattle.std.specs.Prelude.{ℕ, List, [], ◌∷◌, ◌++◌}
use Rattle.cone_counts.specs.FaceCounts.{CountsState}

-- the first two degrees of a face, and none of the other five
abbrev pub first_two : ℕ → ℕ → List ℕ
first_two a b = a ∷ b ∷ 0 ∷ 0 ∷ 0 ∷ 0 ∷ 0 ∷ []

-- the cone has the apex alone in degree 0, and in degree 1 the apex has no vector, each ray one, and the cone three; in the dual cone it is the other
-- way
abbrev pub segment_counts : CountsState
segment_counts = record {
  sum_dim = 2;
  faces = 4;
  m = first_two 1 0 ++ first_two 1 1 ++ first_two 1 1 ++ first_two 1 3;
  n = first_two 1 3 ++ first_two 1 1 ++ first_two 1 1 ++ first_two 1 0;
}
