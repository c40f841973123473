-- What contracts see of a pool of rows, and of the rows that ids name. This project's own.
use Rattle.std.specs.Prelude.{◌≡◌, ◌⊎◌, ℕ, Result, Ok, Err, ◌+◌, ◌<◌, ◌≤◌, max, ◌==◌, if◌then◌else◌, List, [], ◌∷◌, ◌++◌, length, Option, None, Some, slice_get, ⊤}
use Rattle.std.specs.List.{All}
use Rattle.bit_pool.specs.Bits.{IsRow, IsMeet}
use Rattle.bit_pool.specs.declared.faults.RowId.{RowId}
use Rattle.bit_pool.specs.declared.limits.TheConstants.{MOST_WIDTH}
use Rattle.bit_pool.specs.declared.faults.Stale.{Stale}
use Rattle.bit_pool.specs.declared.faults.Full.{Full}
use Rattle.bit_pool.specs.declared.faults.NoMemory.{NoMemory}
use Rattle.bit_pool.specs.declared.faults.RowFault.{RowFault}
use Rattle.bit_pool.specs.declared.faults.RowFault.TheVariants as faults

-- the rows of one epoch, in the order in which they were pushed, and how many of them have room
pub record GenerationState : Type 0 where
  pub epoch : ℕ
  pub rows : List (List ℕ)
  pub reserved : ℕ

-- a pool: its width in bits, its two generations, and how often it was turned over
pub record PoolState : Type 0 where
  pub width : ℕ
  pub old_generation : GenerationState
  pub young_generation : GenerationState
  pub turns : ℕ

-- the rows are sets of numbers below the width, and there is room for them
pub record IsGeneration (width : ℕ) (generation : GenerationState) : Type 0 where
  pub rows : All (IsRow width) generation.rows
  pub fits : length generation.rows ≤ generation.reserved

-- what holds of every pool
pub record IsPool (pool : PoolState) : Type 0 where
  pub some : 1 ≤ pool.width
  pub most : pool.width ≤ MOST_WIDTH
  pub old : IsGeneration pool.width pool.old_generation
  pub young : IsGeneration pool.width pool.young_generation
  pub ages : pool.old_generation.epoch < pool.young_generation.epoch

-- a pool of this width has two empty generations, each with room for so many rows, and was never turned over
pub record IsOpened (width rows : ℕ) (pool : PoolState) : Type 0 where
  pub width_is : pool.width ≡ width
  pub old_empty : pool.old_generation.rows ≡ []
  pub young_empty : pool.young_generation.rows ≡ []
  pub old_reserved : pool.old_generation.reserved ≡ rows
  pub young_reserved : pool.young_generation.reserved ≡ rows
  pub never : pool.turns ≡ 0

-- a generation with room for at least so many rows
abbrev pub with_room : GenerationState → ℕ → GenerationState
with_room generation rows = record generation { reserved = max generation.reserved rows }

-- the row that an id names: it has the id's epoch and stands at its place
abbrev pub row_of : PoolState → RowId → Option (List ℕ)
row_of pool id =
    if id.epoch == pool.young_generation.epoch then slice_get pool.young_generation.rows id.place
    else (if id.epoch == pool.old_generation.epoch then slice_get pool.old_generation.rows id.place else None)

-- the id names a row, and P holds of it
pub record OnRow (pool : PoolState) (id : RowId) (P : List ℕ → Type 0) : Type 0 where
  pub words : List ℕ
  pub named : row_of pool id ≡ Some words
  pub holds : P words

-- the id names no row
pub record IsStale (pool : PoolState) (id : RowId) (stale : Stale) : Type 0 where
  pub nothing : row_of pool id ≡ None
  pub asked : stale.asked ≡ id
  pub old_epoch : stale.old_epoch ≡ pool.old_generation.epoch
  pub young_epoch : stale.young_epoch ≡ pool.young_generation.epoch

-- of two ids the first one names no row, or else the second one
abbrev pub IsFirstStale : PoolState → RowId → RowId → Stale → Type 0
IsFirstStale pool a b stale = IsStale pool a stale ⊎ (OnRow pool a (λ words. ⊤) × IsStale pool b stale)

-- the pool with one more row in its young generation
abbrev pub pushed : PoolState → List ℕ → PoolState
pushed pool words = record pool { young_generation = record pool.young_generation { rows = pool.young_generation.rows ++ words ∷ [] } }

-- the id is the next one of the young generation, which has room for one more row
pub record IsNextId (pool : PoolState) (id : RowId) : Type 0 where
  pub epoch : id.epoch ≡ pool.young_generation.epoch
  pub place : id.place ≡ length pool.young_generation.rows
  pub room : length pool.young_generation.rows < pool.young_generation.reserved

-- the young generation uses all its room, of which the number of rows is told
pub record IsFull (pool : PoolState) (told : ℕ) : Type 0 where
  pub all : length pool.young_generation.rows ≡ pool.young_generation.reserved
  pub told_is : told ≡ pool.young_generation.reserved

-- a generation without rows, with the room of the one before
abbrev pub IsEmptied : GenerationState → GenerationState → Type 0
IsEmptied before now = (now.rows ≡ []) × (now.reserved ≡ before.reserved)

-- both generations are empty, each under an epoch above those before
pub record IsReset (before now : PoolState) : Type 0 where
  pub width : now.width ≡ before.width
  pub old : IsEmptied before.old_generation now.old_generation
  pub young : IsEmptied before.young_generation now.young_generation
  pub fresh : before.young_generation.epoch < now.old_generation.epoch
  pub later : now.old_generation.epoch < now.young_generation.epoch
  pub turned : now.turns ≡ before.turns + 1

-- the young generation became old, as it was, and another young one without rows began, under an epoch above those before
pub record IsSwapped (before now : PoolState) : Type 0 where
  pub width : now.width ≡ before.width
  pub old : now.old_generation ≡ before.young_generation
  pub young : IsEmptied before.old_generation now.young_generation
  pub fresh : before.young_generation.epoch < now.young_generation.epoch
  pub turned : now.turns ≡ before.turns + 1

-- what a push of words does
abbrev pub IsPushed : PoolState → PoolState → List ℕ → Result RowId Full → Type 0
IsPushed before now words (Ok id) = IsNextId before id × (now ≡ pushed before words)
IsPushed before now words (Err full) = IsFull before full.reserved × (now ≡ before)

-- the new row is the meet of the rows of two ids
pub record IsMetOf (before now : PoolState) (a b id : RowId) : Type 0 where
  pub meet : List ℕ
  pub is_row : IsRow before.width meet
  pub is_meet : OnRow before a (λ words. OnRow before b (λ others. IsMeet words others meet))
  pub next : IsNextId before id
  pub pushed_is : now ≡ pushed before meet

-- what meeting two rows does: the first id is asked for first, then the second, then for room
abbrev pub IsMetInto : PoolState → PoolState → RowId → RowId → Result RowId RowFault → Type 0
IsMetInto before now a b (Ok id) = IsMetOf before now a b id
IsMetInto before now a b (Err (faults.Stale stale)) = IsFirstStale before a b stale × (now ≡ before)
IsMetInto before now a b (Err faults.Full) = OnRow before a (λ words. OnRow before b (λ others. ⊤))
    × IsFull before before.young_generation.reserved × (now ≡ before)

-- what reserving rows does
abbrev pub IsReserved : PoolState → PoolState → ℕ → Result (Unit {0}) NoMemory → Type 0
IsReserved before now rows (Ok done) = now ≡ record before {
  old_generation = with_room before.old_generation rows;
  young_generation = with_room before.young_generation rows;
}
IsReserved before now rows (Err none) = now ≡ before
