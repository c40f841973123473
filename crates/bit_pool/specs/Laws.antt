-- The laws of pools.
use Rattle.std.specs.Prelude.{◌≡◌, ℕ, ◌<◌, List, Some}
use Rattle.bit_pool.specs.Pools.{PoolState, IsPool, row_of}
use Rattle.bit_pool.specs.Changes.{IsLater, AreGiven}
use Rattle.bit_pool.specs.declared.faults.RowId.{RowId}

-- ids that were given out stay so, and the row that one of them names later is the one that it named
abbrev pub RowsStay : Type 0
RowsStay = (before now : PoolState) (epoch n : ℕ) → IsPool before → IsLater before now → AreGiven before epoch n
    → AreGiven now epoch n × ((id : RowId) (words : List ℕ) → id.epoch ≡ epoch → id.place < n → row_of now id ≡ Some words
    → row_of before id ≡ Some words)

-- no call changes the width
abbrev pub WidthStays : Type 0
WidthStays = (before now : PoolState) → IsLater before now → now.width ≡ before.width
