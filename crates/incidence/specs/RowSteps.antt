-- How the rows of an incidence are added, one after another. This project's own.
use Rattle.std.specs.Prelude.{◌≡◌, ◌↔◌, ℕ, ◌+◌, ◌*◌, ◌^◌, ◌<◌, ◌≤◌, Bool, false, List, length, slice_index_or, nat_abs, ℤ}
use Rattle.std.specs.List.{All, Contains}
use Rattle.lattice_theory.specs.Affine.{Affine, value}
use Rattle.lattice_core.specs.ValueWidths.{FitsWidth}
use Rattle.lattice_core.specs.declared.value_widths.Width.{Width}
use Rattle.face_theory.specs.Pairings.{is_zero, vector_at, function_at}
use Rattle.bit_pool.specs.Bits.{HasBit, IsRow}
use Rattle.bit_pool.specs.Pools.{PoolState, pushed}
use Rattle.bit_pool.specs.declared.limits.TheConstants.{MOST_WIDTH}
use Rattle.bit_pool.specs.declared.faults.Full.{Full}
use Rattle.incidence.specs.Incidences.{IncidenceState, HasExactly, with_rows}

-- one row was added: that of the set that the words tell
pub record HasRow (before now : PoolState) (words : List ℕ) : Type 0 where
  pub row : List ℕ
  pub is_row : IsRow before.width row
  pub same : (n : ℕ) → HasBit row n ↔ HasBit words n
  pub now_is : now ≡ pushed before row

-- so many rows were added, and P holds of each by its number
pub record AddsRows (before now : PoolState) (count : ℕ) (P : ℕ → List ℕ → Type 0) : Type 0 where
  pub added : List (List ℕ)
  pub many : length added ≡ count
  pub are_rows : All (IsRow before.width) added
  pub each : (k : ℕ) (d : List ℕ) → k < count → P k (slice_index_or added k d)
  pub now_is : now ≡ with_rows before added

-- the words of a row of a table: the numbers below `count` at which it is true, in steps from k times the row step on
abbrev pub IsTableRow : List Bool → ℕ → ℕ → ℕ → ℕ → List ℕ → Type 0
IsTableRow tight row_step count step k words = HasExactly count (λ n. slice_index_or tight (k * row_step + n * step) false) words

-- the words of a point: the functions that are 0 there; and those of a function: the points at which it is 0
abbrev pub IsMembersRow : List (List ℤ) → List Affine → ℕ → List ℕ → Type 0
IsMembersRow points functions m words =
    HasExactly (length functions) (λ f. is_zero (value (function_at functions f) (vector_at points m))) words

abbrev pub IsFunctionsRow : List (List ℤ) → List Affine → ℕ → List ℕ → Type 0
IsFunctionsRow points functions f words =
    HasExactly (length points) (λ m. is_zero (value (function_at functions f) (vector_at points m))) words

-- the numbers of a function are at most so large
abbrev pub IsSmall : ℕ → Affine → Type 0
IsSmall bound f = (nat_abs f.constant < 2 ^ 62) × All (λ a. nat_abs a ≤ bound) f.normal

-- the values of all functions at all points can be worked out in the width
abbrev pub Suits : Width → List (List ℤ) → List Affine → Type 0
Suits width points functions = (f : Affine) (p : List ℤ) → Contains functions f → Contains points p → FitsWidth width f p

-- the rows of the incidence come next, and there is room for them; or there is none
pub record IsPlanned (pool : PoolState) (members functions : ℕ) (i : IncidenceState) : Type 0 where
  pub members_are : i.members ≡ members
  pub functions_are : i.functions ≡ functions
  pub few_members : members ≤ MOST_WIDTH
  pub few_functions : functions ≤ MOST_WIDTH
  pub epoch : i.epoch ≡ pool.young_generation.epoch
  pub first : i.first ≡ length pool.young_generation.rows
  pub room : length pool.young_generation.rows + (members + functions) ≤ pool.young_generation.reserved

pub record LacksRoom (pool : PoolState) (members functions : ℕ) (full : Full) : Type 0 where
  pub lacks : pool.young_generation.reserved < length pool.young_generation.rows + (members + functions)
  pub told : full.reserved ≡ pool.young_generation.reserved
