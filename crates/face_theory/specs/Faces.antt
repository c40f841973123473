-- Faces of finitely many members and functions in a relation "tight" (for a polytope: its vertices, its facets, and the value 0), their
-- ranks and dual faces. This project's own.
use Rattle.std.specs.Prelude.{◌≡◌, ◌↔◌, ℕ, ◌<◌, Bool, List, length, IsTrue}
use Rattle.std.specs.List.{Contains}
use Rattle.face_theory.specs.Sets.{in_set, IsProperPart, IsProperWhole}
use Rattle.face_theory.specs.Chains.{IsHeight}

-- how many members and functions there are, and which member is tight on which function, both counted from 0
pub record TightRelation : Type 0 where
  pub members : ℕ
  pub functions : ℕ
  pub tight : ℕ → ℕ → Bool

-- every member of the set is tight on the function
abbrev pub IsTightOn : TightRelation → List Bool → ℕ → Type 0
IsTightOn R set f = (m : ℕ) → IsTrue (in_set set m) → IsTrue (R.tight m f)

-- a face: it has exactly the members that are tight on each function on which all of the face are tight
pub record IsFace (R : TightRelation) (set : List Bool) : Type 0 where
  pub width : length set ≡ R.members
  pub closed : (m : ℕ) → m < R.members → IsTrue (in_set set m) ↔ ((f : ℕ) → f < R.functions → IsTightOn R set f → IsTrue (R.tight m f))

-- all faces and nothing else, in any order
abbrev pub AreFaces : TightRelation → List (List Bool) → Type 0
AreFaces R faces = (set : List Bool) → Contains faces set ↔ IsFace R set

-- the rank of a face: how long the longest chain of faces strictly within it is
abbrev pub IsRank : TightRelation → List Bool → ℕ → Type 0
IsRank R face k = IsHeight (IsFace R) IsProperPart face k

-- the corank: how long the longest chain of faces strictly around it is
abbrev pub IsCorank : TightRelation → List Bool → ℕ → Type 0
IsCorank R face k = IsHeight (IsFace R) IsProperWhole face k

-- the dual face: the functions on which all members of the face are tight
pub record IsDualFace (R : TightRelation) (face dual : List Bool) : Type 0 where
  pub width : length dual ≡ R.functions
  pub tight : (f : ℕ) → f < R.functions → IsTrue (in_set dual f) ↔ IsTightOn R face f

-- the relation read the other way: its members are the functions
abbrev pub transposed : TightRelation → TightRelation
transposed R = record { members = R.functions; functions = R.members; tight = λ f m. R.tight m f }
