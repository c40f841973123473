-- Cones of the nef partitions of a pair (alg-geom/9509009: the Gorenstein cones of nef partitions).
use Rattle.std.specs.Prelude.{◌≡◌, ℕ, List, ℤ}
use Rattle.lattice_core.specs.Dimensions.{dimension_of}
use Rattle.nef_theory.specs.Nef.{IsNefPartition}
use Rattle.nef_theory.specs.Places.{ArePartPlaces}
use Rattle.cayley_theory.specs.Cones.{AreConeMembers, AreConeFunctions}
use Rattle.dual_pair.specs.Pairs.{PairState}

-- what contracts see of a cone: the dimension of the polytope, the number of parts, and both lists
pub record ConeState : Type 0 where
  pub dim : ℕ
  pub parts : ℕ
  pub members : List (List ℤ)
  pub functions : List (List ℤ)

-- the part numbers are a nef partition of the pair into r parts, whose points have these places
pub record IsPartition (pair : PairState) (part_of places : List ℕ) : Type 0 where
  pub parts : ℕ
  pub nef : IsNefPartition (dimension_of pair.m.vertices) pair.m.vertices pair.n.vertices parts part_of
  pub places_are : ArePartPlaces (dimension_of pair.m.vertices) pair.m.vertices pair.n.vertices pair.m.points parts part_of places

-- the cone of these part numbers, which are a nef partition into its number of parts
pub record IsConeOf (pair : PairState) (part_of : List ℕ) (cone : ConeState) : Type 0 where
  pub dim_is : cone.dim ≡ dimension_of pair.m.vertices
  pub nef : IsNefPartition cone.dim pair.m.vertices pair.n.vertices cone.parts part_of
  pub members_are : AreConeMembers cone.dim pair.m.vertices pair.n.vertices cone.parts part_of cone.members
  pub functions_are : AreConeFunctions cone.dim pair.n.vertices cone.parts part_of cone.functions
