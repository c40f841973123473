-- Sets of numbers, each told by the bits of one number. This project's own.
use Rattle.std.specs.Prelude.{◌≡◌, ℕ}
use Rattle.std.specs.Int.{bit_at}

-- the number is in the set: the row's bit at this place, counted from the lowest one on, is 1
abbrev pub HasIndex : ℕ → ℕ → Type 0
HasIndex row index = bit_at row index ≡ 1

-- each number of the first set is in the second
abbrev pub IsPartOf : ℕ → ℕ → Type 0
IsPartOf row other = (index : ℕ) → HasIndex row index → HasIndex other index
