-- The test of nef partitions by lattice points. It asks of a point only at which places it pairs to -1, and at which it pairs above 0. This
-- project's own.
use Rattle.std.specs.Prelude.{◌≡◌, ◌≢◌, ℕ, ◌<◌, List, length, ℤ, pos, negsuc, ◌≤ℤ◌}
use Rattle.std.specs.List.{Contains}
use Rattle.nef_theory.specs.Nef.{part_at, pairing_at, IsGrowthList}

-- the point x agrees with the first k part numbers, for the vertex m and the part i: on the normals of m's tight places it is -1 where they are
-- of the part, and 0 where they aren't; and wherever it is -1 the normal is of the part
pub record Agrees (normals : List (List ℤ)) (k : ℕ) (parts : List ℕ) (m : List ℤ) (i : ℕ) (x : List ℤ) : Type 0 where
  pub own : (e : ℕ) → e < k → pairing_at normals m e ≡ negsuc 0 → part_at parts e ≡ i → pairing_at normals x e ≡ negsuc 0
  pub others : (e : ℕ) → e < k → pairing_at normals m e ≡ negsuc 0 → part_at parts e ≢ i → pairing_at normals x e ≡ pos 0
  pub inside : (e : ℕ) → e < k → pairing_at normals x e ≡ negsuc 0 → part_at parts e ≡ i

-- some of the points agrees with the first k part numbers
pub record HasAgreeing (normals points : List (List ℤ)) (k : ℕ) (parts : List ℕ) (m : List ℤ) (i : ℕ) : Type 0 where
  pub point : List ℤ
  pub member : Contains points point
  pub agrees : Agrees normals k parts m i point

-- for each vertex and part some point agrees with all part numbers
pub record HaveAgreeingPoints (vertices normals points : List (List ℤ)) (r : ℕ) (parts : List ℕ) : Type 0 where
  pub count : length parts ≡ length normals
  pub growth : IsGrowthList r parts
  pub agreeing : (m : List ℤ) → Contains vertices m → (i : ℕ) → i < r → HasAgreeing normals points (length normals) parts m i

-- a beginning is dead where for some vertex and part no point agrees with it
pub record IsDead (vertices normals points : List (List ℤ)) (r : ℕ) (beginning : List ℕ) : Type 0 where
  pub vertex : List ℤ
  pub member : Contains vertices vertex
  pub part : ℕ
  pub within : part < r
  pub none : HasAgreeing normals points (length beginning) beginning vertex part → ⊥

-- the point x never stands above a tight place of m among the first k: this doesn't depend on part numbers
abbrev pub StaysLow : List (List ℤ) → ℕ → List ℤ → List ℤ → Type 0
StaysLow normals k m x = (e : ℕ) → e < k → pairing_at normals m e ≡ negsuc 0 → pairing_at normals x e ≤ℤ pos 0

-- the rest of the agreement: on the normals of m's tight places that are of the part x is -1, and wherever it is -1 the normal is of the part
pub record AgreesInside (normals : List (List ℤ)) (k : ℕ) (parts : List ℕ) (m : List ℤ) (i : ℕ) (x : List ℤ) : Type 0 where
  pub own : (e : ℕ) → e < k → pairing_at normals m e ≡ negsuc 0 → part_at parts e ≡ i → pairing_at normals x e ≡ negsuc 0
  pub inside : (e : ℕ) → e < k → pairing_at normals x e ≡ negsuc 0 → part_at parts e ≡ i
