-- The Cayley cone of a nef partition into r parts of the normals of a reflexive polytope's facets, in n + r dimensions: the vectors that span it, and
-- those that bound it (alg-geom/9509009: the Gorenstein cones of nef partitions). The order of both is this project's own.
use Rattle.std.specs.Prelude.{◌≡◌, ◌⊎◌, ℕ, zero, suc, ◌<◌, List, [], ◌∷◌, ◌++◌, length, ℤ, pos, slice_index_or}
use Rattle.std.specs.List.{Contains}
use Rattle.lattice_theory.specs.Order.{Lists, LexLess}
use Rattle.nef_theory.specs.Nef.{part_at, IsPartPoint}

-- the vector of n zeros, and the i-th unit vector of r entries
abbrev pub zero_vector : ℕ → List ℤ
zero_vector zero = []
zero_vector (suc n) = pos 0 ∷ zero_vector n

abbrev pub unit_vector : ℕ → ℕ → List ℤ
unit_vector zero i = []
unit_vector (suc r) zero = pos 1 ∷ zero_vector r
unit_vector (suc r) (suc i) = pos 0 ∷ unit_vector r i

-- the vector x with the i-th of r unit vectors behind it
abbrev pub lifted : ℕ → List ℤ → ℕ → List ℤ
lifted r x i = x ++ unit_vector r i

-- a member of the cone: the point of a part at a vertex, with the unit vector of the part
pub record IsConeMember (n : ℕ) (vertices normals : List (List ℤ)) (r : ℕ) (parts : List ℕ) (x : List ℤ) : Type 0 where
  pub vertex : List ℤ
  pub of_vertices : Contains vertices vertex
  pub part : ℕ
  pub within : part < r
  pub point : List ℤ
  pub is_point : IsPartPoint n normals parts vertex part point
  pub is : x ≡ lifted r point part

-- a normal, with the unit vector of its part
pub record IsNormalFunction (normals : List (List ℤ)) (r : ℕ) (parts : List ℕ) (f : List ℤ) : Type 0 where
  pub place : ℕ
  pub within : place < length normals
  pub is : f ≡ lifted r (slice_index_or normals place []) (part_at parts place)

-- the unit vector of a part alone
pub record IsUnitFunction (n r : ℕ) (f : List ℤ) : Type 0 where
  pub part : ℕ
  pub within : part < r
  pub is : f ≡ lifted r (zero_vector n) part

-- a function of the cone
abbrev pub IsConeFunction : ℕ → List (List ℤ) → ℕ → List ℕ → List ℤ → Type 0
IsConeFunction n normals r parts f = IsNormalFunction normals r parts f ⊎ IsUnitFunction n r f

-- all of them, each once, in lexicographic order
abbrev pub AreConeMembers : ℕ → List (List ℤ) → List (List ℤ) → ℕ → List ℕ → List (List ℤ) → Type 0
AreConeMembers n vertices normals r parts xs = Lists LexLess (IsConeMember n vertices normals r parts) xs

abbrev pub AreConeFunctions : ℕ → List (List ℤ) → ℕ → List ℕ → List (List ℤ) → Type 0
AreConeFunctions n normals r parts fs = Lists LexLess (IsConeFunction n normals r parts) fs
