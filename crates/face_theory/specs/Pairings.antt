-- Relations that pairings of integer vectors tell: tight means 0. This project's own.
use Rattle.std.specs.Prelude.{◌≡◌, ◌↔◌, ℕ, zero, suc, ◌<◌, Bool, true, false, List, [], length, ℤ, pos, negsuc, slice_index_or, IsTrue}
use Rattle.lattice_theory.specs.Vector.{dot}
use Rattle.lattice_theory.specs.Affine.{Affine, value}
use Rattle.face_theory.specs.Faces.{TightRelation}

-- members and functions have vectors, those of functions of length n, and a member is tight on a function where both pair to 0
pub record IsPairedBy (n : ℕ) (R : TightRelation) : Type 0 where
  pub member : ℕ → List ℤ
  pub function : ℕ → List ℤ
  pub lengths : (f : ℕ) → f < R.functions → length (function f) ≡ n
  pub tight : (m f : ℕ) → m < R.members → f < R.functions → IsTrue (R.tight m f) ↔ (dot (function f) (member m) ≡ pos 0)

-- whether an integer is 0
abbrev pub is_zero : ℤ → Bool
is_zero (pos zero) = true
is_zero (pos (suc n)) = false
is_zero (negsuc n) = false

-- the vector, or the function, at a place
abbrev pub vector_at : List (List ℤ) → ℕ → List ℤ
vector_at vectors i = slice_index_or vectors i []

abbrev pub function_at : List Affine → ℕ → Affine
function_at functions i = slice_index_or functions i (record { normal = []; constant = pos 0 })

-- vectors as members and as functions
abbrev pub paired : List (List ℤ) → List (List ℤ) → TightRelation
paired members functions = record {
  members = length members;
  functions = length functions;
  tight = λ m f. is_zero (dot (vector_at functions f) (vector_at members m));
}

-- points as members, and affine functions
abbrev pub valued : List (List ℤ) → List Affine → TightRelation
valued points functions = record {
  members = length points;
  functions = length functions;
  tight = λ m f. is_zero (value (function_at functions f) (vector_at points m));
}
