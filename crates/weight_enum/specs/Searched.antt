-- A search through the interior-point systems of a range, and what it gives. This project's own.
use Rattle.std.specs.Prelude.{◌≡◌, ℕ, ◌+◌, List, length, Option, Some, None}
use Rattle.std.specs.List.{All, Contains}
use Rattle.lattice_theory.specs.Order.{Ascends, Lists}
use Rattle.lattice_core.specs.Weights.{Weighted, weighted}
use Rattle.lattice_core.specs.declared.weights.WeightSystem.{WeightSystem}
use Rattle.interior_point_theory.specs.Interior.{SystemLess, IsSystemOfRange, AreSystemsOfRange}

-- what contracts see of a search: one less than the number of weights, the range of degrees, and how many systems were given
pub record Searched : Type 0 where
  pub dim : ℕ
  pub low : ℕ
  pub high : ℕ
  pub given : ℕ

-- s is the system of the range that has so many before it, in the order of degrees and then of weights
pub record IsSystemAt (dim low high place : ℕ) (s : Weighted) : Type 0 where
  pub is_system : IsSystemOfRange dim low high s
  pub before : List Weighted
  pub are_before : Lists SystemLess (λ t. IsSystemOfRange dim low high t × SystemLess t s) before
  pub count : length before ≡ place

-- the range has so many systems
pub record HasSystems (dim low high count : ℕ) : Type 0 where
  pub systems : List Weighted
  pub are_systems : AreSystemsOfRange dim low high systems
  pub count_is : length systems ≡ count

-- a step of a search: the next system is given, or there is none where all were given, and then nothing changes
abbrev pub GivesSystem : Searched → Searched → Option WeightSystem → Type 0
GivesSystem old new (Some s) = (new ≡ record { dim = old.dim; low = old.low; high = old.high; given = old.given + 1 })
    × IsSystemAt old.dim old.low old.high old.given (weighted s)
GivesSystem old new None = (new ≡ old) × HasSystems old.dim old.low old.high old.given

-- the first so many systems of the range, in order
pub record AreFirstSystems (dim low high count : ℕ) (xs : List Weighted) : Type 0 where
  pub ascends : Ascends SystemLess xs
  pub are_systems : All (IsSystemOfRange dim low high) xs
  pub with_earlier : (s t : Weighted) → Contains xs s → IsSystemOfRange dim low high t → SystemLess t s → Contains xs t
  pub count_is : length xs ≡ count
