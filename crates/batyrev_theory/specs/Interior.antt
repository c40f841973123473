-- Points in the interior of a face, and of its dual face; how many there are (alg-geom/9310003: interior points of faces). That a face is a set
-- of vertices, that its dual face is one of facets, and that a point is told by the functions that are 0 there, is this project's own.
use Rattle.std.specs.Prelude.{◌≡◌, ℕ, Bool, List, length, map, ℤ}
use Rattle.lattice_theory.specs.Affine.{Affine, value}
use Rattle.lattice_theory.specs.Order.{Lists, LexLess}
use Rattle.lattice_theory.specs.Points.{IsLatticePoint}
use Rattle.face_theory.specs.Faces.{IsDualFace}
use Rattle.face_theory.specs.Pairings.{is_zero, valued}
use Rattle.duality_theory.specs.Reflexive.{IsDualPoint}
use Rattle.duality_theory.specs.Lists.{with_ones}

-- the set of the functions of a list that are 0 at a point
abbrev pub zeros_at : List Affine → List ℤ → List Bool
zeros_at functions x = map (λ f. is_zero (value f x)) functions

-- a lattice point in the interior of a face: the facets on which it lies are the dual face
pub record IsInterior (n : ℕ) (vertices : List (List ℤ)) (facets : List Affine) (face : List Bool) (x : List ℤ) : Type 0 where
  pub point : IsLatticePoint n vertices x
  pub on : IsDualFace (valued vertices facets) face (zeros_at facets x)

-- a point of the dual polytope in the interior of the dual of a face: the vertices with which it pairs to -1 are the face
pub record IsDualInterior (n : ℕ) (vertices : List (List ℤ)) (face : List Bool) (q : List ℤ) : Type 0 where
  pub point : IsDualPoint n vertices q
  pub on : zeros_at (with_ones vertices) q ≡ face

-- k is the number of the vectors of which P holds: the length of the list that has each of them once, in order
pub record IsCount (P : List ℤ → Type 0) (k : ℕ) : Type 0 where
  pub list : List (List ℤ)
  pub lists : Lists LexLess P list
  pub length_is : length list ≡ k

-- the number of lattice points in the interior of a face, and that of points of the dual polytope in the interior of the face's dual
abbrev pub IsInteriorCount : ℕ → List (List ℤ) → List Affine → List Bool → ℕ → Type 0
IsInteriorCount n vertices facets face k = IsCount (IsInterior n vertices facets face) k

abbrev pub IsDualInteriorCount : ℕ → List (List ℤ) → List Bool → ℕ → Type 0
IsDualInteriorCount n vertices face k = IsCount (IsDualInterior n vertices face) k
