-- Beginnings of part numbers, as rows of places. This project's own.
use Rattle.std.specs.Prelude.{◌≡◌, ◌↔◌, ℕ, ◌<◌, ◌≤◌, List, length, slice_index_or}
use Rattle.bit_rows.specs.Rows.{HasIndex}
use Rattle.bit_rows.specs.declared.row.TheConstants.{MOST_INDICES}
use Rattle.nef_theory.specs.Nef.{part_at, IsGrowthList}
use Rattle.nef_parts.specs.declared.beginnings.Beginning.{Beginning}
use Rattle.nef_parts.specs.declared.beginnings.TheConstants.{MOST_PARTS}

-- a growth list of at most 3 part numbers
pub record IsGrowth (parts : List ℕ) : Type 0 where
  pub used : ℕ
  pub few : used ≤ MOST_PARTS
  pub is : IsGrowthList used parts

-- the row of a part
abbrev pub row_of : List ℕ → ℕ → ℕ
row_of rows i = slice_index_or rows i 0

-- the row tells the places of a part
abbrev pub IsPartRow : List ℕ → ℕ → ℕ → Type 0
IsPartRow b i row = (e : ℕ) → HasIndex row e ↔ ((e < length b) × (part_at b e ≡ i))

-- what is kept of the part numbers b
pub record IsBeginning (b : List ℕ) (g : Beginning) : Type 0 where
  pub count : g.count ≡ length b
  pub few : length b ≤ MOST_INDICES
  pub growth : IsGrowthList g.used b
  pub used : g.used ≤ MOST_PARTS
  pub rows : length g.parts ≡ MOST_PARTS
  pub parts : (i : ℕ) → i < MOST_PARTS → IsPartRow b i (row_of g.parts i)
  pub told : (e : ℕ) → HasIndex g.told e ↔ (e < length b)
