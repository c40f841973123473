-- The numbers of integer vectors, by degree, of the faces of a nef partition's cone and of their dual faces (alg-geom/9509009: the Ehrhart series of
-- the faces of Gorenstein cones), and how they are kept, which is this project's own.
use Rattle.std.specs.Prelude.{◌≡◌, ℕ, ◌+◌, ◌<◌, Bool, List, [], length, ℤ}
use Rattle.lattice_theory.specs.Order.{Lists, LexLess}
use Rattle.face_closing.specs.Words.{set_of}
use Rattle.face_poset.specs.Faces.{TableState, face_at}
use Rattle.cayley_theory.specs.Counts.{IsConePair, CountsOnFace, CountsOnDualFace}
use Rattle.base_counts.specs.Counting.{count_at}
use Rattle.dual_pair.specs.declared.side.Side.{Side}
use Rattle.dual_pair.specs.declared.side.Side.TheVariants as sides
use Rattle.dual_pair.specs.Pairs.{PairState}
use Rattle.cayley.specs.PairCones.{ConeState, IsConeOf}
use Rattle.stringy.specs.ConeNumbers.{PointNumbers}
use Rattle.cone_counts.specs.declared.limits.TheConstants.{MOST_PAIRS}

-- the cone is that of some nef partition of the pair
pub record IsNefCone (pair : PairState) (cone : ConeState) : Type 0 where
  pub part_of : List ℕ
  pub is_cone : IsConeOf pair part_of cone

-- what contracts see of counts: the dimension of the cone, how many faces are counted, and the numbers on both sides, face by face and degree by degree
pub record CountsState : Type 0 where
  pub sum_dim : ℕ
  pub faces : ℕ
  pub m : List ℕ
  pub n : List ℕ

-- the numbers of a side
abbrev pub counts_on : CountsState → Side → List ℕ
counts_on state sides.M = state.m
counts_on state sides.N = state.n

-- the number of vectors of a degree: of a face on side M, and of its dual face on side N
abbrev pub count_of : CountsState → Side → ℕ → ℕ → ℕ
count_of state side degree face = count_at (counts_on state side) face degree

-- the numbers as they are told
abbrev pub numbers_of : CountsState → PointNumbers
numbers_of state = record { dim = state.sum_dim; faces = state.faces; number = count_of state }

-- the members of a face
abbrev pub face_set : ConeState → TableState → ℕ → List Bool
face_set cone table face = set_of (length cone.members) (face_at table.faces face).members

-- for some degree below n + r more integer vectors than the limit pair nonnegatively with all of these
pub record HasManyPairs (n r : ℕ) (vectors : List (List ℤ)) : Type 0 where
  pub degree : ℕ
  pub within : degree < n + r
  pub pairs : List (List ℤ)
  pub are_pairs : Lists LexLess (IsConePair n r vectors [] degree) pairs
  pub many : MOST_PAIRS < length pairs

-- the cone, or its dual, has so many
abbrev pub HasManyOnM : ConeState → Type 0
HasManyOnM cone = HasManyPairs cone.dim cone.parts cone.functions

abbrev pub HasManyOnN : ConeState → Type 0
HasManyOnN cone = HasManyPairs cone.dim cone.parts cone.members

-- the numbers are those of the faces of a table, in its order, for all degrees below the dimension of the cone, of which none has more vectors than
-- the limit
pub record HasCounts (cone : ConeState) (table : TableState) (state : CountsState) : Type 0 where
  pub sum_dim_is : state.sum_dim ≡ cone.dim + cone.parts
  pub faces_are : state.faces ≡ length table.faces
  pub on_face : (face degree : ℕ) → face < length table.faces → degree < cone.dim + cone.parts
      → CountsOnFace cone.dim cone.parts cone.members cone.functions (face_set cone table face) degree (count_of state sides.M degree face)
  pub on_dual_face : (face degree : ℕ) → face < length table.faces → degree < cone.dim + cone.parts
      → CountsOnDualFace cone.dim cone.parts cone.members (face_set cone table face) degree (count_of state sides.N degree face)
  pub few_on_m : HasManyOnM cone → ⊥
  pub few_on_n : HasManyOnN cone → ⊥
