-- Sums of multiples of two vectors within the limit and above it. This project's own.
use Rattle.std.specs.Prelude.{◌≡◌, ℕ, ◌<◌, ◌≤◌, List, ℤ}
use Rattle.lattice_core.specs.declared.limits.TheConstants.{MOST_FRAME_ENTRY}
use Rattle.weight_frame.specs.Frame.{IsSumOfMultiples, largest}

-- z is p x + q y, and no entry is above the limit
pub record IsSmallSum (n : ℕ) (p : ℤ) (x : List ℤ) (q : ℤ) (y z : List ℤ) : Type 0 where
  pub sum : IsSumOfMultiples n p x q y z
  pub within : largest z ≤ MOST_FRAME_ENTRY

-- an entry of p x + q y is above the limit, and the largest absolute value is told
pub record IsLargeSum (n : ℕ) (p : ℤ) (x : List ℤ) (q : ℤ) (y : List ℤ) (told : ℕ) : Type 0 where
  pub vector : List ℤ
  pub sum : IsSumOfMultiples n p x q y vector
  pub value : told ≡ largest vector
  pub above : MOST_FRAME_ENTRY < told
