-- Sets of numbers below a width, told by words of 64 bits. This project's own.
use Rattle.std.specs.Prelude.{◌≡◌, ◌↔◌, ℕ, ◌+◌, ◌/◌, ◌%◌, ◌^◌, ◌<◌, ◌≤◌, ◌==◌, List, length, slice_index_or}
use Rattle.std.specs.List.{All, filter, range_with_len}
use Rattle.std.specs.Int.{bit_at}

-- the least number of words that hold so many bits
abbrev pub words_for : ℕ → ℕ
words_for width = (width + 63) / 64

-- the bit of a number: that at number % 64, from the lowest one on, in the word at number / 64
abbrev pub bit_of : List ℕ → ℕ → ℕ
bit_of words number = bit_at (slice_index_or words (number / 64) 0) (number % 64)

-- the number is in the set
abbrev pub HasBit : List ℕ → ℕ → Type 0
HasBit words number = bit_of words number ≡ 1

-- the words of a set of numbers below the width
pub record IsRow (width : ℕ) (words : List ℕ) : Type 0 where
  pub count : length words ≡ words_for width
  pub small : All (λ w. w < 2 ^ 64) words
  pub below : (number : ℕ) → width ≤ number → HasBit words number → ⊥

-- how many numbers below the width are in the set
abbrev pub size_of : ℕ → List ℕ → ℕ
size_of width words = length (filter (λ number. bit_of words number == 1) (range_with_len 0 width))

-- each number of the first set is in the second
abbrev pub IsSubset : List ℕ → List ℕ → Type 0
IsSubset words others = (number : ℕ) → HasBit words number → HasBit others number

-- the numbers that are in both sets
abbrev pub IsMeet : List ℕ → List ℕ → List ℕ → Type 0
IsMeet words others meet = (number : ℕ) → HasBit meet number ↔ (HasBit words number × HasBit others number)
