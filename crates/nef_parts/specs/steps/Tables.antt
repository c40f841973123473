-- What is kept for each vertex. This project's own.
use Rattle.std.specs.Prelude.{◌≡◌, ℕ, ◌<◌, ◌≤◌, List, length, ℤ, slice_index_or}
use Rattle.std.specs.List.{All, Contains}
use Rattle.lattice_core.specs.Dimensions.{dimension_of}
use Rattle.lattice_core.specs.declared.limits.TheConstants.{MOST_POINTS}
use Rattle.bit_rows.specs.Rows.{IsPartOf}
use Rattle.bit_rows.specs.declared.row.TheConstants.{MOST_INDICES}
use Rattle.nef_theory.specs.Reflexive.{AreAtLeastMinusOne}
use Rattle.nef_theory.specs.Agreement.{StaysLow}
use Rattle.nef_parts.specs.steps.Rows.{IsPairable, IsTightRow, pairings_at, vector_at}
use Rattle.nef_parts.specs.declared.pairings.Pairings.{Pairings}
use Rattle.nef_parts.specs.declared.masks.Candidate.{Candidate}
use Rattle.nef_parts.specs.declared.masks.VertexMask.{VertexMask}
use Rattle.nef_parts.specs.declared.masks.Table.{Table}

-- a candidate of a vertex that pairs to -1 at the places of `tight`: a point that isn't above 0 there
pub record IsCandidateOf (tight : ℕ) (rows : List Pairings) (c : Candidate) : Type 0 where
  pub within : c.place < length rows
  pub row : (pairings_at rows c.place).tight ≡ c.tight
  pub low : IsPartOf tight (pairings_at rows c.place).low

-- there is one with this place
abbrev pub HasPlace : List Candidate → ℕ → Type 0
HasPlace cs place = (c : Candidate) × (Contains cs c × (c.place ≡ place))

-- the candidates among the first k points
pub record AreCandidates (k tight : ℕ) (rows : List Pairings) (cs : List Candidate) : Type 0 where
  pub sound : All (IsCandidateOf tight rows) cs
  pub whole : (place : ℕ) → place < k → IsPartOf tight (pairings_at rows place).low → HasPlace cs place

-- a candidate of the vertex m: a lattice point that is nowhere above 0 where m pairs to -1, and where it pairs to -1
pub record IsCandidate (normals points : List (List ℤ)) (m : List ℤ) (c : Candidate) : Type 0 where
  pub within : c.place < length points
  pub low : StaysLow normals (length normals) m (vector_at points c.place)
  pub row : IsTightRow (length normals) normals (vector_at points c.place) c.tight

-- where the vertex m pairs to -1, and all its candidates
pub record IsMask (normals points : List (List ℤ)) (m : List ℤ) (mask : VertexMask) : Type 0 where
  pub tight : IsTightRow (length normals) normals m mask.tight
  pub sound : All (IsCandidate normals points m) mask.candidates.items
  pub whole : (place : ℕ) → place < length points → StaysLow normals (length normals) m (vector_at points place)
      → HasPlace mask.candidates.items place

-- the masks of the first n vertices, in order
pub record AreMasks (n : ℕ) (vertices normals points : List (List ℤ)) (masks : List VertexMask) : Type 0 where
  pub count : length masks ≡ n
  pub are : (k : ℕ) (d : VertexMask) → k < length masks → IsMask normals points (vector_at vertices k) (slice_index_or masks k d)

-- the points are those that pair to at least -1 with each of at most 128 normals, and all pairings can be worked out
pub record AreTableLists (vertices normals points : List (List ℤ)) : Type 0 where
  pub least : AreAtLeastMinusOne (dimension_of vertices) normals points
  pub few_normals : length normals ≤ MOST_INDICES
  pub few_points : length points ≤ MOST_POINTS
  pub of_vertices : All (IsPairable normals) vertices
  pub of_points : All (IsPairable normals) points

-- such lists, with the masks of the vertices
pub record IsTable (t : Table) : Type 0 where
  pub lists : AreTableLists t.vertices.items t.normals.items t.points.items
  pub masks : AreMasks (length t.vertices.items) t.vertices.items t.normals.items t.points.items t.masks.items
