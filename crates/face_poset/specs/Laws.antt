-- The laws of ranks in tables, and of their numbers.
use Rattle.std.specs.Prelude.{◌≡◌, ◌==◌, ℕ, ◌+◌, ◌≤◌, List, length, count_by, ℤ}
use Rattle.std.specs.List.{All}
use Rattle.lattice_theory.specs.Affine.{Affine}
use Rattle.face_theory.specs.Faces.{TightRelation}
use Rattle.face_theory.specs.Pairings.{valued}
use Rattle.face_closing.specs.Tables.{HasMoreFaces}
use Rattle.face_closing.specs.declared.limits.TheConstants.{MOST_FACES}
use Rattle.face_poset.specs.Faces.{TableState, IsTableOf}
use Rattle.face_poset.specs.Counts.{IsFaceCount, AreFaceCounts}

-- in a table of the faces of points with affine functions of n coordinates a rank is at most n + 1
abbrev pub TopRankBound : Type 0
TopRankBound = (n : ℕ) (points : List (List ℤ)) (functions : List Affine) (table : TableState) → All (λ f. length f.normal ≡ n) functions
    → IsTableOf (valued points functions) table → All (λ face. face.rank ≤ n + 1) table.faces

-- a table of a relation has as many faces of each rank as the relation
abbrev pub TableCountsFaces : Type 0
TableCountsFaces = (R : TightRelation) (table : TableState) (rank : ℕ) → IsTableOf R table
    → IsFaceCount R rank (count_by (λ face. face.rank == rank) table.faces)

-- and where it has at most 4,096 faces, the relation hasn't more
abbrev pub TableHasFewFaces : Type 0
TableHasFewFaces = (R : TightRelation) (table : TableState) → IsTableOf R table → length table.faces ≤ MOST_FACES → HasMoreFaces R → ⊥

-- a relation has one list of numbers of faces
abbrev pub FaceCountsAreSingle : Type 0
FaceCountsAreSingle = (R : TightRelation) (n : ℕ) (counts others : List ℕ) → AreFaceCounts R n counts → AreFaceCounts R n others → counts ≡ others
