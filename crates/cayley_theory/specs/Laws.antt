-- The laws of Cayley cones, as statements.
use Rattle.std.specs.Prelude.{◌≡◌, ℕ, ◌+◌, ◌≤◌, List, ◌++◌, length, ℤ, pos, ◌≤ℤ◌, Bool}
use Rattle.std.specs.List.{All, Contains}
use Rattle.lattice_theory.specs.Vector.{dot, HaveDimension}
use Rattle.lattice_theory.specs.Affine.{Affine}
use Rattle.lattice_theory.specs.Order.{Ascends, Lists, LexLess}
use Rattle.lattice_theory.specs.Facet.{IsFacet}
use Rattle.duality_theory.specs.Reflexive.{with_one}
use Rattle.face_theory.specs.Sets.{set_size}
use Rattle.face_theory.specs.Faces.{IsFace, IsRank}
use Rattle.face_theory.specs.Pairings.{paired}
use Rattle.nef_theory.specs.Nef.{IsPartPoint, IsNefPartition}
use Rattle.cayley_theory.specs.Cones.{IsConeMember, IsConeFunction, AreConeMembers, AreConeFunctions}
use Rattle.cayley_theory.specs.Counts.{IsConePair, CountsOnFace, CountsOnDualFace}
use Rattle.cayley_theory.specs.Bases.{lifted_all, HaveParts, HasDegree, HasBaseOf, AreFreeParts, Number, summed}

-- where the function (m, 1) of a vertex m is a facet of the normals, as it is where these are all of a reflexive polytope's, a part has at most one
-- point at the vertex
abbrev pub PartPointsAreSingle : Type 0
PartPointsAreSingle = (n : ℕ) (normals : List (List ℤ)) (parts : List ℕ) (m : List ℤ) (i : ℕ) (x y : List ℤ) → IsFacet n normals (with_one m)
    → IsPartPoint n normals parts m i x → IsPartPoint n normals parts m i y → x ≡ y

-- members and functions have n + r entries
abbrev pub ConeLengths : Type 0
ConeLengths = (n : ℕ) (vertices normals : List (List ℤ)) (r : ℕ) (parts : List ℕ) → HaveDimension n normals
    → ((x : List ℤ) → IsConeMember n vertices normals r parts x → length x ≡ n + r)
    × ((f : List ℤ) → IsConeFunction n normals r parts f → length f ≡ n + r)

-- each function of a nef partition's cone is nonnegative on each member
abbrev pub PairingsAreNonnegative : Type 0
PairingsAreNonnegative = (n : ℕ) (vertices normals : List (List ℤ)) (r : ℕ) (parts : List ℕ) → HaveDimension n normals
    → IsNefPartition n vertices normals r parts → (x f : List ℤ) → IsConeMember n vertices normals r parts x → IsConeFunction n normals r parts f
    → pos 0 ≤ℤ dot f x

-- a rank of the cone's faces is at most n + r
abbrev pub ConeRankBound : Type 0
ConeRankBound = (n : ℕ) (normals : List (List ℤ)) (r : ℕ) (parts : List ℕ) (members functions : List (List ℤ)) → HaveDimension n normals
    → AreConeFunctions n normals r parts functions → (face : List Bool) (k : ℕ) → IsFace (paired members functions) face
    → IsRank (paired members functions) face k → k ≤ n + r

-- a nef partition has one list of members and one of functions
abbrev pub ConesAreSingle : Type 0
ConesAreSingle = (n : ℕ) (vertices normals : List (List ℤ)) (r : ℕ) (parts : List ℕ) (xs ys fs gs : List (List ℤ))
    → AreConeMembers n vertices normals r parts xs → AreConeMembers n vertices normals r parts ys
    → AreConeFunctions n normals r parts fs → AreConeFunctions n normals r parts gs → (xs ≡ ys) × (fs ≡ gs)

-- so a face has one number of vectors of a degree, and so has its dual face
abbrev pub CountsAreSingle : Type 0
CountsAreSingle = (n r : ℕ) (members functions : List (List ℤ)) (face : List Bool) (s j k : ℕ)
    → CountsOnFace n r members functions face s j → CountsOnFace n r members functions face s k → j ≡ k

abbrev pub DualCountsAreSingle : Type 0
DualCountsAreSingle = (n r : ℕ) (members : List (List ℤ)) (face : List Bool) (s j k : ℕ)
    → CountsOnDualFace n r members face s j → CountsOnDualFace n r members face s k → j ≡ k

-- the integer vectors of a degree that are nonnegative on the vectors, and 0 on those of a set, are counted by bases: as often as a part is free,
-- the numbers are summed of the points whose base is 0 on the set and has one degree after the other, up to this one. The points are in order,
-- have bases, and are at least all that these vectors have
abbrev pub CountsByBases : Type 0
CountsByBases = (n r : ℕ) (vs : List Affine) (set free : List Bool) (s : ℕ) (points : List (List ℤ)) (counts : ℕ → ℕ) → HaveParts n r vs
    → length set ≡ length vs → AreFreeParts r vs set free → Ascends LexLess points → HaveDimension n points → All (HasDegree r vs) points
    → ((x a : List ℤ) → IsConePair n r (lifted_all r vs) set s (x ++ a) → length x ≡ n → Contains points x)
    → ((l : ℕ) → l ≤ s → Number (HasBaseOf r vs set l) points (counts l))
    → (pairs : List (List ℤ)) × Lists LexLess (IsConePair n r (lifted_all r vs) set s) pairs × (summed (set_size free) counts s ≡ length pairs)
