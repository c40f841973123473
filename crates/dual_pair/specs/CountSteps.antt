-- How points are counted by the sets of a table. This project's own.
use Rattle.std.specs.Prelude.{◌≡◌, ℕ, ◌<◌, Bool, List, length}
use Rattle.face_closing.specs.Words.{set_of, IsSetOf}
use Rattle.face_poset.specs.Faces.{FaceState, TableState, face_at}
use Rattle.dual_pair.specs.declared.side.Side.{Side}
use Rattle.dual_pair.specs.declared.side.Side.TheVariants as sides

-- by which words of a face the points of a side are told: on M by the facets of the dual face, on N by the vertices
abbrev pub words_on : Side → FaceState → List ℕ
words_on sides.M face = face.functions
words_on sides.N face = face.members

-- for how many numbers in these words a table was opened
abbrev pub opened_on : Side → TableState → ℕ
opened_on sides.M table = table.functions
opened_on sides.N table = table.members

-- the set of the face with a number, of numbers below the width
abbrev pub sought : ℕ → Side → List FaceState → ℕ → List Bool
sought width side faces k = set_of width (words_on side (face_at faces k))

-- each face has such a set, in so many words, and no two have the same
pub record AreSought (count width : ℕ) (side : Side) (faces : List FaceState) : Type 0 where
  pub sets : (k : ℕ) → k < length faces → IsSetOf count width (words_on side (face_at faces k))
  pub apart : (j k : ℕ) → j < length faces → k < length faces → sought width side faces j ≡ sought width side faces k → j ≡ k
