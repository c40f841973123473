-- The laws of nef partitions, as statements.
use Rattle.std.specs.Prelude.{◌↔◌, ℕ, ◌<◌, List, [], ◌++◌, length, ℤ, negsuc, ◌≤ℤ◌}
use Rattle.lattice_theory.specs.Order.{Lists}
use Rattle.lattice_theory.specs.Points.{AreLatticePoints}
use Rattle.facet_theory.specs.Solid.{AreSolid}
use Rattle.walk_theory.specs.Walks.{NumbersLess, Guide, walk}
use Rattle.nef_theory.specs.Nef.{IsNefPartition, pairing_at}
use Rattle.duality_theory.specs.Reflexive.{IsReflexive, AreFacetNormals}
use Rattle.nef_theory.specs.Reflexive.{AreAtLeastMinusOne}
use Rattle.nef_theory.specs.Agreement.{Agrees, HaveAgreeingPoints, IsDead, StaysLow, AgreesInside}
use Rattle.nef_theory.specs.Walk.{IsNefGuide}

-- the lattice points of a reflexive polytope are the integer vectors whose pairing with each facet's normal is at least -1
abbrev pub PointsByNormals : Type 0
PointsByNormals = (n : ℕ) (points normals lattice_points : List (List ℤ)) → AreSolid n points → IsReflexive n points
    → AreFacetNormals n points normals → AreLatticePoints n points lattice_points → AreAtLeastMinusOne n normals lattice_points

-- the nef partitions are the lists with which points agree, one for each vertex and part
abbrev pub NefByAgreement : Type 0
NefByAgreement = (n : ℕ) (vertices normals points : List (List ℤ)) (r : ℕ) (parts : List ℕ) → AreAtLeastMinusOne n normals points
    → IsNefPartition n vertices normals r parts ↔ HaveAgreeingPoints vertices normals points r parts

-- where the pairings of a point are at least -1, it agrees exactly where it stays low, which doesn't depend on part numbers, and agrees inside
abbrev pub AgreementSplits : Type 0
AgreementSplits = (normals : List (List ℤ)) (k : ℕ) (parts : List ℕ) (m : List ℤ) (i : ℕ) (x : List ℤ)
    → ((e : ℕ) → e < k → negsuc 0 ≤ℤ pairing_at normals x e)
    → Agrees normals k parts m i x ↔ (StaysLow normals k m x × AgreesInside normals k parts m i x)

-- no nef partition has a dead beginning
abbrev pub DeadBeginnings : Type 0
DeadBeginnings = (n : ℕ) (vertices normals points : List (List ℤ)) (r : ℕ) (beginning rest : List ℕ) → AreAtLeastMinusOne n normals points
    → IsDead vertices normals points r beginning → IsNefPartition n vertices normals r (beginning ++ rest) → ⊥

-- the walk of a nef guide lists all nef partitions into r parts, each once, in lexicographic order
abbrev pub NefWalk : Type 0
NefWalk = (n : ℕ) (vertices normals points : List (List ℤ)) (r : ℕ) (g : Guide) → AreAtLeastMinusOne n normals points
    → IsNefGuide vertices normals points r g
    → Lists NumbersLess (IsNefPartition n vertices normals r) (walk g (length normals) [])
