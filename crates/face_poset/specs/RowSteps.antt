-- Words that are copied, and the set of the first numbers. This project's own.
use Rattle.std.specs.Prelude.{◌≡◌, ◌↔◌, ℕ, ◌<◌, ◌/◌, List, length, if◌then◌else◌, slice_index_or}
use Rattle.bit_pool.specs.Bits.{HasBit}

-- the space has the words, as many as go into it, and zeros behind them
abbrev pub IsFitted : List ℕ → List ℕ → Type 0
IsFitted words space = (i : ℕ) → i < length space → slice_index_or space i 0 ≡ slice_index_or words i 0

-- the set of the numbers below this one
abbrev pub HasFirst : ℕ → List ℕ → Type 0
HasFirst count words = (number : ℕ) → HasBit words number ↔ (number < count)
