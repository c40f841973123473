-- The laws of ranks in tables of the faces of cones, of the partitions that a search finds, and of counts in cones by points of dilates.
use Rattle.std.specs.Prelude.{◌≡◌, ℕ, ◌+◌, ◌≤◌, Bool, List, length, ℤ}
use Rattle.std.specs.List.{All}
use Rattle.lattice_theory.specs.Affine.{Affine}
use Rattle.lattice_theory.specs.Order.{Lists, LexLess}
use Rattle.face_theory.specs.Sets.{set_size}
use Rattle.face_theory.specs.Faces.{IsDualFace}
use Rattle.face_theory.specs.Pairings.{paired}
use Rattle.cayley_theory.specs.Counts.{IsConePair, CountsOnFace, CountsOnDualFace}
use Rattle.cayley_theory.specs.Bases.{lifted_all, HaveParts, HaveAllParts, HasBaseOf, AreFreeParts, Number, summed}
use Rattle.point_scan.specs.Dilates.{AreDilatePoints}
use Rattle.face_poset.specs.Faces.{TableState, IsTableOf}
use Rattle.dual_pair.specs.Pairs.{PairState, IsPair}
use Rattle.nef_parts.specs.Lists.{lists_of}
use Rattle.nef_parts.specs.Partitions.{IsNefAt, ArePointsOf}
use Rattle.cayley.specs.PairCones.{ConeState, IsPartition, IsConeOf}

-- in a table of the faces of a cone a rank is at most the dimension and the number of parts, together
abbrev pub ConeTopRankBound : Type 0
ConeTopRankBound = (pair : PairState) (part_of : List ℕ) (cone : ConeState) (table : TableState) → IsPair pair → IsConeOf pair part_of cone
    → IsTableOf (paired cone.members cone.functions) table → All (λ face. face.rank ≤ cone.dim + cone.parts) table.faces

-- what a search for the nef partitions of a pair gives is a nef partition of it, with the places of its points
abbrev pub FoundArePartitions : Type 0
FoundArePartitions = (pair : PairState) (r place : ℕ) (part_of places : List ℕ) → IsNefAt (lists_of pair) r place part_of
    → ArePointsOf (lists_of pair) r part_of places → IsPartition pair part_of places

-- the functions of a cone, kept with their parts, have all parts, and so have its members
abbrev pub FunctionsHaveAllParts : Type 0
FunctionsHaveAllParts = (pair : PairState) (part_of : List ℕ) (cone : ConeState) → IsPair pair → IsConeOf pair part_of cone → (fs : List Affine)
    → lifted_all cone.parts fs ≡ cone.functions → HaveParts cone.dim cone.parts fs → HaveAllParts cone.parts fs

abbrev pub MembersHaveAllParts : Type 0
MembersHaveAllParts = (pair : PairState) (part_of : List ℕ) (cone : ConeState) → IsPair pair → IsConeOf pair part_of cone → (ms : List Affine)
    → lifted_all cone.parts ms ≡ cone.members → HaveParts cone.dim cone.parts ms → HaveAllParts cone.parts ms

-- the integer vectors of a degree in a cone that are 0 on a set of its functions are counted by the points of a dilate of the polytope: as often as a
-- part has no function in the set, the numbers are summed of the points whose base is 0 on the set and has one degree after the other. The dilate is
-- taken at least as often as the degree says
abbrev pub PairsAreCounted : Type 0
PairsAreCounted = (pair : PairState) (part_of : List ℕ) (cone : ConeState) → IsPair pair → IsConeOf pair part_of cone → (fs : List Affine)
    → lifted_all cone.parts fs ≡ cone.functions → HaveParts cone.dim cone.parts fs
    → (dilate : ℕ) (points : List (List ℤ)) → AreDilatePoints cone.dim pair.m.vertices dilate points
    → (set free : List Bool) → length set ≡ length fs → AreFreeParts cone.parts fs set free
    → (s : ℕ) → s ≤ dilate → (counts : ℕ → ℕ) → ((l : ℕ) → l ≤ s → Number (HasBaseOf cone.parts fs set l) points (counts l))
    → (pairs : List (List ℤ)) × Lists LexLess (IsConePair cone.dim cone.parts cone.functions set s) pairs × (summed (set_size free) counts s ≡ length pairs)

-- those in the dual cone that are 0 on a set of the cone's members are counted by the points of a dilate of the dual
abbrev pub DualPairsAreCounted : Type 0
DualPairsAreCounted = (pair : PairState) (part_of : List ℕ) (cone : ConeState) → IsPair pair → IsConeOf pair part_of cone → (ms : List Affine)
    → lifted_all cone.parts ms ≡ cone.members → HaveParts cone.dim cone.parts ms
    → (dilate : ℕ) (points : List (List ℤ)) → AreDilatePoints cone.dim pair.n.vertices dilate points
    → (set free : List Bool) → length set ≡ length ms → AreFreeParts cone.parts ms set free
    → (s : ℕ) → s ≤ dilate → (counts : ℕ → ℕ) → ((l : ℕ) → l ≤ s → Number (HasBaseOf cone.parts ms set l) points (counts l))
    → (pairs : List (List ℤ)) × Lists LexLess (IsConePair cone.dim cone.parts cone.members set s) pairs × (summed (set_size free) counts s ≡ length pairs)

-- so the vectors of a face are counted, where the set is its dual face
abbrev pub FacesAreCounted : Type 0
FacesAreCounted = (pair : PairState) (part_of : List ℕ) (cone : ConeState) → IsPair pair → IsConeOf pair part_of cone → (fs : List Affine)
    → lifted_all cone.parts fs ≡ cone.functions → HaveParts cone.dim cone.parts fs
    → (dilate : ℕ) (points : List (List ℤ)) → AreDilatePoints cone.dim pair.m.vertices dilate points
    → (face dual free : List Bool) → IsDualFace (paired cone.members cone.functions) face dual → AreFreeParts cone.parts fs dual free
    → (s : ℕ) → s ≤ dilate → (counts : ℕ → ℕ) → ((l : ℕ) → l ≤ s → Number (HasBaseOf cone.parts fs dual l) points (counts l))
    → CountsOnFace cone.dim cone.parts cone.members cone.functions face s (summed (set_size free) counts s)

-- and those of the dual face, where it is the face itself
abbrev pub DualFacesAreCounted : Type 0
DualFacesAreCounted = (pair : PairState) (part_of : List ℕ) (cone : ConeState) → IsPair pair → IsConeOf pair part_of cone → (ms : List Affine)
    → lifted_all cone.parts ms ≡ cone.members → HaveParts cone.dim cone.parts ms
    → (dilate : ℕ) (points : List (List ℤ)) → AreDilatePoints cone.dim pair.n.vertices dilate points
    → (face free : List Bool) → length face ≡ length ms → AreFreeParts cone.parts ms face free
    → (s : ℕ) → s ≤ dilate → (counts : ℕ → ℕ) → ((l : ℕ) → l ≤ s → Number (HasBaseOf cone.parts ms face l) points (counts l))
    → CountsOnDualFace cone.dim cone.parts cone.members face s (summed (set_size free) counts s)
