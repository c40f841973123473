-- The faces of a table, by their numbers, as faces with numbers of lattice points. This project's own.
use Rattle.std.specs.Prelude.{◌≢◌, ℕ, List, [], length, slice_index_or}
use Rattle.std.specs.List.{All, AllPairs, range_with_len}
use Rattle.face_theory.specs.Sets.{is_part}
use Rattle.face_theory.specs.Faces.{TightRelation, IsFace, IsRank}
use Rattle.face_theory.specs.Ranks.{RankedFace}
use Rattle.polynomial_theory.specs.Series.{Series}
use Rattle.stringy_theory.specs.CountedFaces.{CountedFaces}

-- the face with a number
abbrev pub ranked_at : List RankedFace → ℕ → RankedFace
ranked_at table i = slice_index_or table i (record { set = []; rank = 0 })

-- some faces of a relation, each once, with their ranks
pub record IsRankedTable (R : TightRelation) (table : List RankedFace) : Type 0 where
  pub faces : All (λ f. IsFace R f.set) table
  pub ranks : All (λ f. IsRank R f.set f.rank) table
  pub once : AllPairs (λ a b. a.set ≢ b.set) table

-- their numbers: one is below another where its set is within the other's
abbrev pub numbered_faces : List RankedFace → ℕ → (ℕ → Series) → (ℕ → Series) → CountedFaces ℕ
numbered_faces table top l l_dual = record {
  faces = range_with_len 0 (length table);
  below = λ x y. is_part (ranked_at table x).set (ranked_at table y).set;
  rank = λ x. (ranked_at table x).rank;
  top = top;
  l = l;
  l_dual = l_dual;
}
