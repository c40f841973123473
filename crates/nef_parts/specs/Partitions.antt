-- The nef partitions of a pair as one list, and what a search gives of it (alg-geom/9509009: nef partitions of reflexive polytopes; the order
-- and the points' places are this project's own).
use Rattle.std.specs.Prelude.{◌≡◌, ℕ, ◌+◌, ◌*◌, ◌<◌, List, [], ◌∷◌, ◌++◌, length, map, ℤ, pos, slice_index_or}
use Rattle.lattice_theory.specs.Order.{Lists, LexLess}
use Rattle.lattice_core.specs.Dimensions.{dimension_of}
use Rattle.nef_theory.specs.Nef.{IsPartPoint, IsNefPartition}
use Rattle.nef_parts.specs.Lists.{PairLists}

-- a nef partition of the normals into r parts
abbrev pub IsNefOf : PairLists → ℕ → List ℕ → Type 0
IsNefOf l r parts = IsNefPartition (dimension_of l.vertices) l.vertices l.normals r parts

-- its part numbers as integers
pub record IsNefVector (l : PairLists) (r : ℕ) (z : List ℤ) : Type 0 where
  pub parts : List ℕ
  pub is : map pos parts ≡ z
  pub nef : IsNefOf l r parts

-- all nef partitions, each once, in lexicographic order
abbrev pub AreNefPartitions : PairLists → ℕ → List (List ℤ) → Type 0
AreNefPartitions l r all = Lists LexLess (IsNefVector l r) all

-- what contracts see of a search: the lists, the number of parts, and how many partitions were given
pub record Searched : Type 0 where
  pub lists : PairLists
  pub codim : ℕ
  pub given : ℕ

-- in the list of all nef partitions, this is the one that has so many before it
pub record IsNefAt (l : PairLists) (r place : ℕ) (parts : List ℕ) : Type 0 where
  pub before : List (List ℤ)
  pub after : List (List ℤ)
  pub are_partitions : AreNefPartitions l r (before ++ map pos parts ∷ after)
  pub count : length before ≡ place

-- there are so many nef partitions
pub record HasNefPartitions (l : PairLists) (r count : ℕ) : Type 0 where
  pub members : List (List ℤ)
  pub are_partitions : AreNefPartitions l r members
  pub count_is : length members ≡ count

-- the point of the part i at the vertex v, told by its place among the lattice points
pub record IsPointAt (l : PairLists) (parts : List ℕ) (v i place : ℕ) : Type 0 where
  pub within : place < length l.points
  pub is : IsPartPoint (dimension_of l.vertices) l.normals parts (slice_index_or l.vertices v []) i (slice_index_or l.points place [])

-- the places of the points of all parts, vertex by vertex and part by part
pub record ArePointsOf (l : PairLists) (r : ℕ) (parts places : List ℕ) : Type 0 where
  pub count : length places ≡ length l.vertices * r
  pub are : (v i : ℕ) → v < length l.vertices → i < r → IsPointAt l parts v i (slice_index_or places (v * r + i) 0)

-- lists of part numbers as integers
abbrev pub vectors : List (List ℕ) → List (List ℤ)
vectors xs = map (λ (parts : List ℕ). map pos parts) xs

-- the first so many nef partitions, in order: the list of all begins with them
pub record AreFirstPartitions (l : PairLists) (r count : ℕ) (xs : List (List ℕ)) : Type 0 where
  pub behind : List (List ℤ)
  pub are_partitions : AreNefPartitions l r (vectors xs ++ behind)
  pub count_is : length xs ≡ count
