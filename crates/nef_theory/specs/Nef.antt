-- Nef partitions of the vertices of the dual polytope (alg-geom/9509009: nef partitions of reflexive polytopes). That a partition is told by
-- a list of part numbers, in which a number occurs first only behind all smaller ones, is this project's own.
use Rattle.std.specs.Prelude.{◌≡◌, ◌≢◌, ℕ, ◌<◌, List, [], length, ℤ, pos, negsuc, ◌≤ℤ◌, slice_index_or}
use Rattle.std.specs.List.{All, Contains}
use Rattle.lattice_theory.specs.Vector.{dot}

-- the part number at a place
abbrev pub part_at : List ℕ → ℕ → ℕ
part_at parts e = slice_index_or parts e 0

-- the pairing of a vector with the normal at a place
abbrev pub pairing_at : List (List ℤ) → List ℤ → ℕ → ℤ
pairing_at normals x e = dot x (slice_index_or normals e [])

-- a restricted growth list of r part numbers: all of 0 to r - 1 occur, and a number occurs first only behind all smaller ones
pub record IsGrowthList (r : ℕ) (parts : List ℕ) : Type 0 where
  pub below : All (λ p. p < r) parts
  pub occur : (i : ℕ) → i < r → Contains parts i
  pub first : (e i : ℕ) → e < length parts → i < part_at parts e → (f : ℕ) × (f < e) × (part_at parts f ≡ i)

-- x is the point of the part i at the vertex m: of the normals on which m is tight (-1), x is -1 on those of the part and 0 on the others; on
-- all normals x is at least -1 where they are of the part, and at least 0 elsewhere
pub record IsPartPoint (n : ℕ) (normals : List (List ℤ)) (parts : List ℕ) (m : List ℤ) (i : ℕ) (x : List ℤ) : Type 0 where
  pub dimension : length x ≡ n
  pub own : (e : ℕ) → e < length normals → pairing_at normals m e ≡ negsuc 0 → part_at parts e ≡ i → pairing_at normals x e ≡ negsuc 0
  pub others : (e : ℕ) → e < length normals → pairing_at normals m e ≡ negsuc 0 → part_at parts e ≢ i → pairing_at normals x e ≡ pos 0
  pub least : (e : ℕ) → e < length normals → part_at parts e ≡ i → negsuc 0 ≤ℤ pairing_at normals x e
  pub apart : (e : ℕ) → e < length normals → part_at parts e ≢ i → pos 0 ≤ℤ pairing_at normals x e

-- the part numbers are a nef partition into r parts of the normals of a polytope with these vertices: each part has a point at each vertex
pub record IsNefPartition (n : ℕ) (vertices normals : List (List ℤ)) (r : ℕ) (parts : List ℕ) : Type 0 where
  pub count : length parts ≡ length normals
  pub growth : IsGrowthList r parts
  pub points : (m : List ℤ) → Contains vertices m → (i : ℕ) → i < r → (x : List ℤ) × IsPartPoint n normals parts m i x
