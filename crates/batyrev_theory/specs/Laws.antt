-- The laws of Batyrev's numbers, as statements.
use Rattle.std.specs.Prelude.{◌≡◌, ℕ, Bool, List, ℤ}
use Rattle.lattice_theory.specs.Affine.{Affine}
use Rattle.lattice_theory.specs.Points.{AreLatticePoints}
use Rattle.face_theory.specs.Faces.{TightRelation, IsDualFace}
use Rattle.face_theory.specs.Pairings.{valued}
use Rattle.duality_theory.specs.Lists.{AreDualPoints, with_ones}
use Rattle.batyrev_theory.specs.Interior.{IsInteriorCount, IsDualInteriorCount}
use Rattle.batyrev_theory.specs.Numbers.{IsProductSum, IsDivisorNumber, IsDeformationNumber, AreSurfaceNumbers, AreThreefoldNumbers, AreFourfoldNumbers}
use Rattle.batyrev_theory.specs.Tables.{FaceEntry, IsFaceTable, points_with, product_of, rank_sum, divisors_by, deformations_by}

-- the points in the interior of a face are counted in the list of all lattice points, by the dual face
abbrev pub InteriorByList : Type 0
InteriorByList = (n : ℕ) (vertices : List (List ℤ)) (facets : List Affine) (points : List (List ℤ)) (face dual : List Bool)
    → AreLatticePoints n vertices points → IsDualFace (valued vertices facets) face dual
    → IsInteriorCount n vertices facets face (points_with facets points dual)

-- those in the interior of its dual in the list of all points of the dual polytope, by the face
abbrev pub DualInteriorByList : Type 0
DualInteriorByList = (n : ℕ) (vertices dual_points : List (List ℤ)) (face : List Bool) → AreDualPoints n vertices dual_points
    → IsDualInteriorCount n vertices face (points_with (with_ones vertices) dual_points face)

-- a face has one number of either kind
abbrev pub InteriorCountIsSingle : Type 0
InteriorCountIsSingle = (n : ℕ) (vertices : List (List ℤ)) (facets : List Affine) (face : List Bool) (j k : ℕ)
    → IsInteriorCount n vertices facets face j → IsInteriorCount n vertices facets face k → j ≡ k

abbrev pub DualInteriorCountIsSingle : Type 0
DualInteriorCountIsSingle = (n : ℕ) (vertices : List (List ℤ)) (face : List Bool) (j k : ℕ)
    → IsDualInteriorCount n vertices face j → IsDualInteriorCount n vertices face k → j ≡ k

-- there is a table of all faces
abbrev pub FaceTableExists : Type 0
FaceTableExists = (R : TightRelation) → (table : List FaceEntry) × IsFaceTable R table

-- any table of all faces, with the lists of points, gives the numbers
abbrev pub DivisorsByTable : Type 0
DivisorsByTable = (n : ℕ) (vertices : List (List ℤ)) (facets : List Affine) (points dual_points : List (List ℤ)) (table : List FaceEntry)
    → AreLatticePoints n vertices points → AreDualPoints n vertices dual_points → IsFaceTable (valued vertices facets) table
    → IsDivisorNumber n vertices facets (divisors_by n vertices facets points dual_points table)

abbrev pub DeformationsByTable : Type 0
DeformationsByTable = (n : ℕ) (vertices : List (List ℤ)) (facets : List Affine) (points dual_points : List (List ℤ)) (table : List FaceEntry)
    → AreLatticePoints n vertices points → AreDualPoints n vertices dual_points → IsFaceTable (valued vertices facets) table
    → IsDeformationNumber n vertices facets (deformations_by n vertices facets points dual_points table)

abbrev pub ProductsByTable : Type 0
ProductsByTable = (n : ℕ) (vertices : List (List ℤ)) (facets : List Affine) (points dual_points : List (List ℤ)) (table : List FaceEntry) (r : ℕ)
    → AreLatticePoints n vertices points → AreDualPoints n vertices dual_points → IsFaceTable (valued vertices facets) table
    → IsProductSum n vertices facets r (rank_sum r (product_of vertices facets points dual_points) table)

-- the numbers are single
abbrev pub SurfaceNumbersAreSingle : Type 0
SurfaceNumbersAreSingle = (vertices : List (List ℤ)) (facets : List Affine) (pic cor pic' cor' : ℤ)
    → AreSurfaceNumbers vertices facets pic cor → AreSurfaceNumbers vertices facets pic' cor' → (pic ≡ pic') × (cor ≡ cor')

abbrev pub ThreefoldNumbersAreSingle : Type 0
ThreefoldNumbersAreSingle = (vertices : List (List ℤ)) (facets : List Affine) (h11 h21 euler h11' h21' euler' : ℤ)
    → AreThreefoldNumbers vertices facets h11 h21 euler → AreThreefoldNumbers vertices facets h11' h21' euler'
    → (h11 ≡ h11') × (h21 ≡ h21') × (euler ≡ euler')

abbrev pub FourfoldNumbersAreSingle : Type 0
FourfoldNumbersAreSingle = (vertices : List (List ℤ)) (facets : List Affine) (h11 h21 h31 euler h11' h21' h31' euler' : ℤ)
    → AreFourfoldNumbers vertices facets h11 h21 h31 euler → AreFourfoldNumbers vertices facets h11' h21' h31' euler'
    → (h11 ≡ h11') × (h21 ≡ h21') × (h31 ≡ h31') × (euler ≡ euler')
