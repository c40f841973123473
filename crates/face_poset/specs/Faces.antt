-- What contracts see of a table of faces, and when it is that of a relation. This project's own.
use Rattle.std.specs.Prelude.{◌≡◌, ◌⊎◌, ℕ, ◌+◌, ◌<◌, ◌≤◌, Bool, List, [], map, length, slice_index_or}
use Rattle.std.specs.List.{All, AllPairs, Contains}
use Rattle.bit_pool.specs.Bits.{words_for}
use Rattle.face_theory.specs.Faces.{TightRelation, IsFace, IsDualFace, IsRank}
use Rattle.face_closing.specs.Words.{set_of, IsSetOf, IsEarlier}

-- a face: the words of the set of its members, those of its dual face, and its rank
pub record FaceState : Type 0 where
  pub members : List ℕ
  pub functions : List ℕ
  pub rank : ℕ

-- a table: how many members and functions it was opened for, and its faces
pub record TableState : Type 0 where
  pub members : ℕ
  pub functions : ℕ
  pub faces : List FaceState

-- the face with a number
abbrev pub no_face : FaceState
no_face = record { members = []; functions = []; rank = 0 }

abbrev pub face_at : List FaceState → ℕ → FaceState
face_at faces i = slice_index_or faces i no_face

-- the order of faces: by rank; of one rank, that face comes first which has the first member in which both differ. Of two faces of one rank
-- neither is within the other, so this is the order of their ascending lists of members
abbrev pub ComesBefore : FaceState → FaceState → Type 0
ComesBefore a b = (a.rank < b.rank) ⊎ ((a.rank ≡ b.rank) × IsEarlier a.members b.members)

-- the words tell a face of the relation and its dual face, and the rank is the face's
pub record IsFaceOf (table : TableState) (R : TightRelation) (face : FaceState) : Type 0 where
  pub members_tell : IsSetOf (words_for table.members) R.members face.members
  pub functions_tell : IsSetOf (words_for table.functions) R.functions face.functions
  pub is_face : IsFace R (set_of R.members face.members)
  pub dual : IsDualFace R (set_of R.members face.members) (set_of R.functions face.functions)
  pub rank_is : IsRank R (set_of R.members face.members) face.rank

-- the table has exactly the faces of the relation, in order
pub record IsTableOf (R : TightRelation) (table : TableState) : Type 0 where
  pub are_faces : All (IsFaceOf table R) table.faces
  pub all : (set : List Bool) → IsFace R set → Contains (map (λ face. set_of R.members face.members) table.faces) set
  pub ascending : AllPairs ComesBefore table.faces

-- the largest rank of a face
pub record IsTopRank (faces : List FaceState) (rank : ℕ) : Type 0 where
  pub most : All (λ face. face.rank ≤ rank) faces
  pub place : ℕ
  pub within : place < length faces
  pub reached : (face_at faces place).rank ≡ rank
