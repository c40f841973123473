-- Rows that are kept word after word. This project's own.
use Rattle.std.specs.Prelude.{◌≡◌, ℕ, zero, suc, ◌+◌, ◌*◌, ◌≤◌, List, [], ◌∷◌, length, take, drop}
use Rattle.bit_pool.specs.Bits.{words_for, IsRow, IsMeet}
use Rattle.bit_pool.specs.Pools.{GenerationState, PoolState, IsPool, OnRow}
use Rattle.bit_pool.specs.declared.faults.RowId.{RowId}
use Rattle.bit_pool.specs.declared.limits.TheConstants.{MOST_ROWS, MOST_TURNS}

-- the first rows of some words, each of so many words
abbrev pub rows_in : ℕ → ℕ → List ℕ → List (List ℕ)
rows_in row_words zero words = []
rows_in row_words (suc count) words = take row_words words ∷ rows_in row_words count (drop row_words words)

-- the rows of one epoch, the number of words of each, and how many words there is room for
pub record Kept : Type 0 where
  pub epoch : ℕ
  pub row_words : ℕ
  pub rows : List (List ℕ)
  pub room : ℕ

-- nothing but the room changes, and that doesn't fall
pub record IsKept (before now : Kept) : Type 0 where
  pub epoch : now.epoch ≡ before.epoch
  pub row_words : now.row_words ≡ before.row_words
  pub rows : now.rows ≡ before.rows
  pub room : before.room ≤ now.room

-- the rows have as many words as the width needs, and there is room for so many rows
pub record HasRoom (width rows : ℕ) (kept : Kept) : Type 0 where
  pub words : kept.row_words ≡ words_for width
  pub room : rows * words_for width ≤ kept.room

-- what contracts see of the rows of one epoch, and of two of them
abbrev pub seen : ℕ → Kept → GenerationState
seen reserved kept = record { epoch = kept.epoch; rows = kept.rows; reserved = reserved }

abbrev pub pool_of : ℕ → ℕ → ℕ → Kept → Kept → PoolState
pool_of width reserved turns old young = record {
  width = width;
  old_generation = seen reserved old;
  young_generation = seen reserved young;
  turns = turns;
}

-- what holds of a pool that is kept so: there is room for all rows, and the epochs don't outrun the turns
pub record IsStored (width reserved turns : ℕ) (old young : Kept) : Type 0 where
  pub pool : IsPool (pool_of width reserved turns old young)
  pub few : reserved ≤ MOST_ROWS
  pub old_room : HasRoom width reserved old
  pub young_room : HasRoom width reserved young
  pub epochs : young.epoch ≤ 2 * turns + 1
  pub few_turns : turns ≤ MOST_TURNS

-- the first words of an array are the meet of the rows of two ids
pub record IsMetBy (pool : PoolState) (a b : RowId) (met : List ℕ × ℕ) : Type 0 where
  pub is_row : IsRow pool.width (take met.1 met.0)
  pub within : met.1 ≤ length met.0
  pub is_meet : OnRow pool a (λ words. OnRow pool b (λ others. IsMeet words others (take met.1 met.0)))
