-- How calls change a pool, and which ids it has given out. This project's own.
use Rattle.std.specs.Prelude.{◌≡◌, ◌⊎◌, ℕ, Result, ◌<◌, ◌≤◌, List, length}
use Rattle.bit_pool.specs.Bits.{IsRow}
use Rattle.bit_pool.specs.Pools.{PoolState, IsPushed, IsMetInto, IsReserved, IsSwapped, IsReset}
use Rattle.bit_pool.specs.declared.faults.RowId.{RowId}
use Rattle.bit_pool.specs.declared.faults.Full.{Full}
use Rattle.bit_pool.specs.declared.faults.NoMemory.{NoMemory}
use Rattle.bit_pool.specs.declared.faults.RowFault.{RowFault}

-- one call that may change the pool was made, whatever it answered
pub data IsCalled (before now : PoolState) : Type 0 where
  pushes : (words : List ℕ) (answer : Result RowId Full) → IsRow before.width words → IsPushed before now words answer → IsCalled before now
  meets : (a b : RowId) (answer : Result RowId RowFault) → IsMetInto before now a b answer → IsCalled before now
  reserves : (rows : ℕ) (answer : Result (Unit {0}) NoMemory) → IsReserved before now rows answer → IsCalled before now
  swaps : IsSwapped before now → IsCalled before now
  resets : IsReset before now → IsCalled before now

-- some calls were made, one after another
pub data IsLater (before : PoolState) : PoolState → Type 0 where
  same : IsLater before before
  called : {middle now : PoolState} → IsLater before middle → IsCalled middle now → IsLater before now

-- the first n ids of an epoch were given out: the epoch is over, or it is the young generation's, which has so many rows
abbrev pub AreGiven : PoolState → ℕ → ℕ → Type 0
AreGiven pool epoch n = (epoch < pool.young_generation.epoch)
    ⊎ ((epoch ≡ pool.young_generation.epoch) × (n ≤ length pool.young_generation.rows))
