-- The steps on the way to the numbers of a cone's faces. This project's own.
use Rattle.std.specs.Prelude.{◌≡◌, ◌≢◌, ℕ, suc, ◌+◌, ◌*◌, ◌==◌, ◌<◌, ◌≤◌, Bool, true, false, not, List, [], length, take, ℤ}
use Rattle.lattice_theory.specs.Affine.{Affine}
use Rattle.face_theory.specs.Sets.{in_set, set_size}
use Rattle.face_theory.specs.Pairings.{function_at}
use Rattle.bit_pool.specs.Bits.{HasBit, IsSubset}
use Rattle.bit_pool.specs.steps.Stored.{Kept}
use Rattle.face_closing.specs.Words.{set_of}
use Rattle.incidence.specs.Incidences.{HasExactly}
use Rattle.face_poset.specs.Faces.{FaceState, TableState, face_at}
use Rattle.cayley_theory.specs.Counts.{CountsOnDualFace}
use Rattle.cayley_theory.specs.Bases.{part_in, summed}
use Rattle.base_counts.specs.Counting.{set_at, count_at}
use Rattle.base_counts.specs.declared.counts.TheConstants.{DEGREES}
use Rattle.dual_pair.specs.declared.side.Side.{Side}
use Rattle.dual_pair.specs.declared.side.Side.TheVariants as sides
use Rattle.dual_pair.specs.Polytopes.{PolytopeState}
use Rattle.dual_pair.specs.Pairs.{PairState}
use Rattle.cayley.specs.PairCones.{ConeState}
use Rattle.cone_counts.specs.FaceCounts.{CountsState, count_of}
use Rattle.cone_counts.specs.declared.limits.TheConstants.{MOST_PAIRS}

-- the words by which a face is counted on a side, and the vectors with which points pair there
abbrev pub words_on : Side → FaceState → List ℕ
words_on sides.M face = face.functions
words_on sides.N face = face.members

abbrev pub vectors_on : Side → ConeState → List (List ℤ)
vectors_on sides.M cone = cone.functions
vectors_on sides.N cone = cone.members

-- the polytope whose points are counted there, and how many vectors the table's faces are for
abbrev pub polytope_of : Side → PairState → PolytopeState
polytope_of sides.M pair = pair.m
polytope_of sides.N pair = pair.n

abbrev pub width_on : Side → TableState → ℕ
width_on sides.M table = table.functions
width_on sides.N table = table.members

-- no sets, of so many words, with room for these
pub record IsOpened (words sets : ℕ) (g : Kept) : Type 0 where
  pub words_are : g.row_words ≡ words
  pub empty : g.rows ≡ []
  pub room : sets * words ≤ g.room

-- the first words of the first faces
pub record AreFirstSets (side : Side) (faces : List FaceState) (words k : ℕ) (rows : List (List ℕ)) : Type 0 where
  pub many : length rows ≡ k
  pub long : (i : ℕ) → i < k → length (set_at rows i) ≡ words
  pub face : (i : ℕ) → i < k → set_at rows i ≡ take words (words_on side (face_at faces i))

-- those of all faces, and the empty set behind them
pub record AreFaceSets (side : Side) (faces : List FaceState) (words : ℕ) (rows : List (List ℕ)) : Type 0 where
  pub many : length rows ≡ suc (length faces)
  pub long : (i : ℕ) → i < length rows → length (set_at rows i) ≡ words
  pub face : (i : ℕ) → i < length faces → set_at rows i ≡ take words (words_on side (face_at faces i))
  pub last : (number : ℕ) → HasBit (set_at rows (length faces)) number → ⊥

-- each row has so many words
abbrev pub AreLong : ℕ → List (List ℕ) → Type 0
AreLong words rows = (k : ℕ) → k < length rows → length (set_at rows k) ≡ words

-- whether the vector isn't of the part
abbrev pub other_part : List Affine → ℕ → ℕ → Bool
other_part vs part i = not (part_in (function_at vs i) == part)

-- for each of the first parts, the set of the vectors that aren't of it
pub record AreMasks (vs : List Affine) (words parts : ℕ) (masks : List (List ℕ)) : Type 0 where
  pub many : length masks ≡ parts
  pub long : (j : ℕ) → j < parts → length (set_at masks j) ≡ words
  pub bits : (j : ℕ) → j < parts → HasExactly (length vs) (other_part vs j) (set_at masks j)

-- whether a set is within another
abbrev pub TellsWithin : List ℕ → List ℕ → Bool → Type 0
TellsWithin words row true = IsSubset words row
TellsWithin words row false = IsSubset words row → ⊥

-- the set is within so many of the rows
pub record IsWithinNumber (words : List ℕ) (rows : List (List ℕ)) (count : ℕ) : Type 0 where
  pub within : List Bool
  pub width : length within ≡ length rows
  pub tells : (j : ℕ) → j < length rows → TellsWithin words (set_at rows j) (in_set within j)
  pub count_is : count ≡ set_size within

-- the numbers of one set are summed so often, and no others change
pub record IsSummed (times set : ℕ) (old new : List ℕ) : Type 0 where
  pub sums : (l : ℕ) → l < DEGREES → count_at new set l ≡ summed times (count_at old set) l
  pub others : (k l : ℕ) → k ≢ set → l < DEGREES → count_at new k l ≡ count_at old k l

-- those of a set are summed as often as it is within one of the rows
pub record IsSummedWithin (masks : List (List ℕ)) (words : List ℕ) (old new : ℕ → ℕ) : Type 0 where
  pub times : ℕ
  pub within : IsWithinNumber words masks times
  pub sums : (l : ℕ) → l < DEGREES → new l ≡ summed times old l

-- those of all sets are
abbrev pub AreSummed : List (List ℕ) → List (List ℕ) → List ℕ → List ℕ → Type 0
AreSummed masks rows old new = (k : ℕ) → k < length rows → IsSummedWithin masks (set_at rows k) (count_at old k) (count_at new k)

-- the numbers of vectors on a side: those that are 0 on the set of a face, and all
pub record AreSideCounts (cone : ConeState) (faces : List FaceState) (side : Side) (counts : List ℕ) : Type 0 where
  pub whole : length counts ≡ suc (length faces) * DEGREES
  pub face : (f s : ℕ) → f < length faces → s < cone.dim + cone.parts → CountsOnDualFace cone.dim cone.parts (vectors_on side cone)
      (set_of (length (vectors_on side cone)) (words_on side (face_at faces f))) s (count_at counts f s)
  pub all : (s : ℕ) → s < cone.dim + cone.parts → CountsOnDualFace cone.dim cone.parts (vectors_on side cone) [] s (count_at counts (length faces) s)

-- a number of the set, of one of the first degrees, is above the limit
pub record HasLarge (set degrees : ℕ) (counts : List ℕ) : Type 0 where
  pub degree : ℕ
  pub within : degree < degrees
  pub large : MOST_PAIRS < count_at counts set degree

-- counts as they are kept
pub record AreKeptCounts (state : CountsState) : Type 0 where
  pub some : 1 ≤ state.sum_dim
  pub most : state.sum_dim ≤ DEGREES
  pub room_on_m : state.faces * DEGREES ≤ length state.m
  pub room_on_n : state.faces * DEGREES ≤ length state.n
  pub few : (side : Side) (degree face : ℕ) → degree < state.sum_dim → face < state.faces → count_of state side degree face ≤ MOST_PAIRS
