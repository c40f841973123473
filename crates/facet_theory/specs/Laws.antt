-- The theorem on facets and what follows from it, as statements about points of dimension n that aren't flat.
use Rattle.std.specs.Prelude.{◌≡◌, ◌↔◌, ℕ, ◌<◌, ◌≤◌, List, length, ℤ, pos, ◌*ℤ◌, ◌≤ℤ◌, ◌<ℤ◌}
use Rattle.std.specs.List.{All, Contains}
use Rattle.lattice_theory.specs.Vector.{entry, dot, HaveDimension}
use Rattle.lattice_theory.specs.Affine.{Affine, value, IsNonnegative, Vanishes, VanishesWith, IsMultiple}
use Rattle.lattice_theory.specs.Size.{size}
use Rattle.lattice_theory.specs.Hull.{InHull, IsVertex, AreVerticesInAnyOrder}
use Rattle.lattice_theory.specs.Facet.{IsFacet, AreFacets}
use Rattle.lattice_theory.specs.Points.{IsLatticePoint, IsDilatePoint}
use Rattle.facet_theory.specs.Solid.{AreSolid}
use Rattle.facet_theory.specs.Sums.{IsSumOfFacets}

-- the theorem on facets: each function that is nonnegative on the points is, up to a positive multiple, a sum of facets
abbrev pub FacetsGenerate : Type 0
FacetsGenerate = (n : ℕ) (points : List (List ℤ)) → AreSolid n points
    → (f : Affine) → length f.normal ≡ n → IsNonnegative points f → IsSumOfFacets n points f

-- a point is in the hull exactly where each facet is nonnegative at it
abbrev pub HullByFacets : Type 0
HullByFacets = (n : ℕ) (points : List (List ℤ)) → AreSolid n points → (x : List ℤ) → length x ≡ n
    → InHull n points x ↔ ((f : Affine) → IsFacet n points f → pos 0 ≤ℤ value f x)

-- two facets are equal where the second is 0 at each point of the list at which the first is
abbrev pub FacetsDiffer : Type 0
FacetsDiffer = (n : ℕ) (points : List (List ℤ)) → AreSolid n points
    → (f g : Affine) → IsFacet n points f → IsFacet n points g → VanishesWith points f g → f ≡ g

-- the hull lies in the box of the points (also where they are flat)
abbrev pub HullInBox : Type 0
HullInBox = (n : ℕ) (points : List (List ℤ)) → HaveDimension n points → (x : List ℤ) → InHull n points x
    → (i : ℕ) → i < n
    → (low : List ℤ) × (high : List ℤ) × Contains points low × Contains points high
    × (entry low i ≤ℤ entry x i) × (entry x i ≤ℤ entry high i)

-- no direction but 0 is nonnegative on all normals of facets
abbrev pub FacetsBound : Type 0
FacetsBound = (n : ℕ) (points : List (List ℤ)) → AreSolid n points → (y : List ℤ) → length y ≡ n
    → ((f : Affine) → IsFacet n points f → pos 0 ≤ℤ dot f.normal y) → All (λ a. a ≡ pos 0) y

-- some facet has a positive constant
abbrev pub SomePositiveConstant : Type 0
SomePositiveConstant = (n : ℕ) (points : List (List ℤ)) → AreSolid n points
    → (f : Affine) × IsFacet n points f × (pos 0 <ℤ f.constant)

-- each facet is fixed by n of the points that lie on it
abbrev pub FacetByPoints : Type 0
FacetByPoints = (n : ℕ) (points : List (List ℤ)) → AreSolid n points → (f : Affine) → IsFacet n points f
    → (on : List (List ℤ)) × (length on ≡ n) × ((p : List ℤ) → Contains on p → Contains points p) × Vanishes on f
    × ((g : Affine) → length g.normal ≡ n → Vanishes on g → IsMultiple g f)

-- the facets are finitely many: there is the list of them
abbrev pub FacetsAreListed : Type 0
FacetsAreListed = (n : ℕ) (points : List (List ℤ)) → AreSolid n points → (fs : List Affine) × AreFacets n points fs

-- a point of the list is a vertex exactly where no other point lies on all the facets on which it lies
abbrev pub VerticesByFacets : Type 0
VerticesByFacets = (n : ℕ) (points : List (List ℤ)) → AreSolid n points → (v : List ℤ) → Contains points v
    → IsVertex n points v
    ↔ ((p : List ℤ) → Contains points p → ((f : Affine) → IsFacet n points f → value f v ≡ pos 0 → value f p ≡ pos 0) → p ≡ v)

-- each function has its least value on the points at a vertex
abbrev pub LeastAtVertex : Type 0
LeastAtVertex = (n : ℕ) (points : List (List ℤ)) → AreSolid n points → (f : Affine) → length f.normal ≡ n
    → (v : List ℤ) × IsVertex n points v × ((p : List ℤ) → Contains points p → value f v ≤ℤ value f p)

-- the vertices have the facets of the points
abbrev pub FacetsOfVertices : Type 0
FacetsOfVertices = (n : ℕ) (points vertices : List (List ℤ)) → AreSolid n points → AreVerticesInAnyOrder n points vertices
    → (f : Affine) → IsFacet n points f ↔ IsFacet n vertices f

-- they aren't flat, and have n coordinates
abbrev pub VerticesAreSolid : Type 0
VerticesAreSolid = (n : ℕ) (points vertices : List (List ℤ)) → AreSolid n points → AreVerticesInAnyOrder n points vertices
    → AreSolid n vertices

-- there is one
abbrev pub SomeVertex : Type 0
SomeVertex = (n : ℕ) (points vertices : List (List ℤ)) → AreSolid n points → AreVerticesInAnyOrder n points vertices → 0 < length vertices

-- their size is at most that of the points (also where these are flat)
abbrev pub VerticesAreSmall : Type 0
VerticesAreSmall = (n : ℕ) (points vertices : List (List ℤ)) → AreVerticesInAnyOrder n points vertices → size n vertices ≤ size n points

-- they have the hull of the points
abbrev pub HullOfVertices : Type 0
HullOfVertices = (n : ℕ) (points vertices : List (List ℤ)) → AreSolid n points → AreVerticesInAnyOrder n points vertices
    → (x : List ℤ) → InHull n points x ↔ InHull n vertices x

-- where some of the points, the corners, aren't flat either and have the facets of all, their vertices are those of all
abbrev pub VerticesOfCorners : Type 0
VerticesOfCorners = (n : ℕ) (points corners : List (List ℤ)) → AreSolid n points → AreSolid n corners
    → ((c : List ℤ) → Contains corners c → Contains points c) → ((f : Affine) → IsFacet n points f ↔ IsFacet n corners f)
    → (v : List ℤ) → IsVertex n points v ↔ IsVertex n corners v

-- so they have its lattice points
abbrev pub LatticePointsOfVertices : Type 0
LatticePointsOfVertices = (n : ℕ) (points vertices : List (List ℤ)) → AreSolid n points → AreVerticesInAnyOrder n points vertices
    → (x : List ℤ) → IsLatticePoint n points x ↔ IsLatticePoint n vertices x

-- and those of its dilates
abbrev pub DilatePointsOfVertices : Type 0
DilatePointsOfVertices = (n : ℕ) (points vertices : List (List ℤ)) → AreSolid n points → AreVerticesInAnyOrder n points vertices
    → (j : ℕ) (x : List ℤ) → IsDilatePoint n points j x ↔ IsDilatePoint n vertices j x

-- the lattice points of the hull are those of the first dilate
abbrev pub FirstDilateIsHull : Type 0
FirstDilateIsHull = (n : ℕ) (points : List (List ℤ)) → AreSolid n points → (x : List ℤ)
    → IsDilatePoint n points 1 x ↔ IsLatticePoint n points x

-- the j-th dilate lies in the j-th dilate of each box that holds the points
abbrev pub DilateInBox : Type 0
DilateInBox = (n : ℕ) (points : List (List ℤ)) → AreSolid n points → (j : ℕ) (x : List ℤ) → IsDilatePoint n points j x
    → (i : ℕ) → i < n → (low high : ℤ) → All (λ p. (low ≤ℤ entry p i) × (entry p i ≤ℤ high)) points
    → ((pos j *ℤ low) ≤ℤ entry x i) × (entry x i ≤ℤ (pos j *ℤ high))
