-- Agreement, as rows of places tell it. This project's own.
use Rattle.std.specs.Prelude.{◌≡◌, ℕ, ◌<◌, ◌/◌, ◌%◌, List, length, slice_index_or}
use Rattle.std.specs.List.{Contains}
use Rattle.bit_rows.specs.Rows.{HasIndex}
use Rattle.nef_parts.specs.declared.beginnings.Beginning.{Beginning}
use Rattle.nef_parts.specs.declared.masks.Candidate.{Candidate}
use Rattle.nef_parts.specs.declared.masks.VertexMask.{VertexMask}
use Rattle.nef_parts.specs.steps.Beginnings.{row_of}

-- a candidate that is at -1 in the places of `row` agrees: it is at -1 in each own place in which the vertex is, and of the told places only
-- in own ones
pub record RowsAgree (tight own told row : ℕ) : Type 0 where
  pub at_own : (e : ℕ) → HasIndex own e → HasIndex tight e → HasIndex row e
  pub only_own : (e : ℕ) → HasIndex row e → HasIndex told e → HasIndex own e

-- some candidate of the vertex agrees with the beginning, for the part i
abbrev pub SomeAgrees : VertexMask → Beginning → ℕ → Type 0
SomeAgrees mask g i = (c : Candidate) × (Contains mask.candidates.items c × RowsAgree mask.tight (row_of g.parts i) g.told c.tight)

-- for each vertex and part
abbrev pub AllAgree : List VertexMask → Beginning → ℕ → Type 0
AllAgree masks g r = (v : ℕ) (d : VertexMask) → v < length masks → (i : ℕ) → i < r → SomeAgrees (slice_index_or masks v d) g i

-- the candidate at the place agrees
pub record AgreesAt (candidates : List Candidate) (tight own told place : ℕ) : Type 0 where
  pub within : place < length candidates
  pub agrees : (d : Candidate) → RowsAgree tight own told (slice_index_or candidates place d).tight

-- the place of a candidate that agrees with the beginning, for the part i
abbrev pub HasAgreeingPlace : VertexMask → Beginning → ℕ → ℕ → Type 0
HasAgreeingPlace mask g i place = (c : Candidate)
    × ((Contains mask.candidates.items c × (c.place ≡ place)) × RowsAgree mask.tight (row_of g.parts i) g.told c.tight)

-- the same of the vertex and the part at a place of a table with r columns
abbrev pub AgreesIn : List VertexMask → Beginning → ℕ → ℕ → ℕ → Type 0
AgreesIn masks g r k place = (d : VertexMask) → HasAgreeingPlace (slice_index_or masks (k / r) d) g (k % r) place
