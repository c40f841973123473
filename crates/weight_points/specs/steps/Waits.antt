-- What weights can take exactly, and how often the first of them is taken at least. This project's own.
use Rattle.std.specs.Prelude.{◌≡◌, ◌↔◌, ℕ, suc, ◌+◌, ◌*◌, ◌<◌, ◌≤◌, List, [], ◌∷◌, length, drop, slice_index_or}
use Rattle.weight_points.specs.declared.waits.TheConstants.{NEVER}

-- what exponents take of a degree: the sum of the exponents, each times its weight
abbrev pub spent : List ℕ → List ℕ → ℕ
spent [] a = 0
spent (w ∷ weights) [] = 0
spent (w ∷ weights) (e ∷ a) = w * e + spent weights a

-- some exponents take the number exactly
abbrev pub CanTake : List ℕ → ℕ → Type 0
CanTake weights n = (b : List ℕ) × (spent weights b ≡ n)

-- the table tells which numbers the weights can take exactly
abbrev pub IsReach : List ℕ → List ℕ → Type 0
IsReach weights waits = (n : ℕ) → n < length waits → (slice_index_or waits n 0 < NEVER) ↔ CanTake weights n

-- with the weight taken k times, the weights behind it can take exactly what is left of the number
abbrev pub Takes : ℕ → List ℕ → ℕ → ℕ → Type 0
Takes weight weights n k = (b : List ℕ) × (k * weight + spent weights b ≡ n)

-- k is the least such number of times, or NEVER where there is none below
pub record IsWait (weight : ℕ) (weights : List ℕ) (n k : ℕ) : Type 0 where
  pub takes : k < NEVER → Takes weight weights n k
  pub least : (j : ℕ) → Takes weight weights n j → k ≤ j

-- the table tells these numbers
abbrev pub AreWaits : ℕ → List ℕ → List ℕ → Type 0
AreWaits weight weights waits = (n : ℕ) → n < length waits → IsWait weight weights n (slice_index_or waits n 0)

-- a first table, and such tables for the weight at each place and those behind it, the last place first, for all numbers up to the degree
pub record AreTables (weights : List ℕ) (degree : ℕ) (tables : List (List ℕ)) : Type 0 where
  pub columns : length tables ≡ length weights + 1
  pub rows : (k : ℕ) → k < length tables → length (slice_index_or tables k []) ≡ degree + 1
  pub each : (k place : ℕ) → k + place ≡ length weights → place < length weights
      → AreWaits (slice_index_or weights place 0) (drop (suc place) weights) (slice_index_or tables k [])
