-- The laws of duality, as statements about points of dimension n that aren't flat and are reflexive, and the normals of their facets.
use Rattle.std.specs.Prelude.{◌≡◌, ◌↔◌, ℕ, List, length, ℤ, pos, ◌≤ℤ◌}
use Rattle.std.specs.List.{All, Contains}
use Rattle.lattice_theory.specs.Vector.{dot}
use Rattle.lattice_theory.specs.Affine.{Affine}
use Rattle.lattice_theory.specs.Hull.{IsVertex}
use Rattle.lattice_theory.specs.Facet.{IsFacet}
use Rattle.lattice_theory.specs.Points.{IsLatticePoint, AreLatticePoints}
use Rattle.facet_theory.specs.Solid.{AreSolid}
use Rattle.duality_theory.specs.Reflexive.{IsReflexive, AreFacetNormals, IsDualPoint, normals_of}
use Rattle.duality_theory.specs.Lists.{ReflexiveLists, with_ones, AreDualPoints}

-- the normals of the facets of points that aren't flat aren't flat, reflexive or not
abbrev pub NormalsAreSolid : Type 0
NormalsAreSolid = (n : ℕ) (points normals : List (List ℤ)) → AreSolid n points → AreFacetNormals n points normals → AreSolid n normals

-- no direction but 0 is nonnegative on all of them
abbrev pub NormalsSurround : Type 0
NormalsSurround = (n : ℕ) (points normals : List (List ℤ)) → AreSolid n points → AreFacetNormals n points normals
    → (y : List ℤ) → length y ≡ n → All (λ q. pos 0 ≤ℤ dot q y) normals → All (λ a. a ≡ pos 0) y

-- the facets of the normals are exactly the functions (v, 1) of the vertices v
abbrev pub FacetsOfDual : Type 0
FacetsOfDual = (n : ℕ) (points normals : List (List ℤ)) → AreSolid n points → IsReflexive n points → AreFacetNormals n points normals
    → (f : Affine) → IsFacet n normals f ↔ (IsVertex n points f.normal × (f.constant ≡ pos 1))

-- so the normals are reflexive
abbrev pub DualIsReflexive : Type 0
DualIsReflexive = (n : ℕ) (points normals : List (List ℤ)) → AreSolid n points → IsReflexive n points → AreFacetNormals n points normals
    → IsReflexive n normals

-- each normal is a vertex of them
abbrev pub VerticesOfDual : Type 0
VerticesOfDual = (n : ℕ) (points normals : List (List ℤ)) → AreSolid n points → IsReflexive n points → AreFacetNormals n points normals
    → (q : List ℤ) → IsVertex n normals q ↔ Contains normals q

-- the lattice points of their hull are the points of the dual polytope
abbrev pub PointsOfDual : Type 0
PointsOfDual = (n : ℕ) (points normals : List (List ℤ)) → AreSolid n points → IsReflexive n points → AreFacetNormals n points normals
    → (q : List ℤ) → IsLatticePoint n normals q ↔ IsDualPoint n points q

-- in order: the normals are the list of all their vertices, and the functions (v, 1) that of their facets
abbrev pub ListsOfDual : Type 0
ListsOfDual = (n : ℕ) (points vertices : List (List ℤ)) (facets : List Affine) → ReflexiveLists n points vertices facets
    → ReflexiveLists n (normals_of facets) (normals_of facets) (with_ones vertices)

-- the list of their lattice points is that of the points of the dual polytope
abbrev pub PointListOfDual : Type 0
PointListOfDual = (n : ℕ) (points vertices : List (List ℤ)) (facets : List Affine) (qs : List (List ℤ))
    → ReflexiveLists n points vertices facets → AreLatticePoints n (normals_of facets) qs ↔ AreDualPoints n points qs

-- the dual of the dual: the points of its dual polytope are the lattice points that there were at first
abbrev pub DualOfDual : Type 0
DualOfDual = (n : ℕ) (points vertices : List (List ℤ)) (facets : List Affine) → ReflexiveLists n points vertices facets
    → (normals_of (with_ones vertices) ≡ vertices) × (with_ones (normals_of facets) ≡ facets)
    × ((x : List ℤ) → IsDualPoint n (normals_of facets) x ↔ IsLatticePoint n points x)
