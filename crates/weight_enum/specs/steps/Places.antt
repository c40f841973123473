-- The place of a search. This project's own.
use Rattle.std.specs.Prelude.{◌≡◌, ◌⊎◌, ℕ, ◌+◌, ◌*◌, ◌^◌, ◌<◌, ◌≤◌, List, ◌++◌, length, drop}
use Rattle.lattice_theory.specs.Order.{Lists}
use Rattle.lattice_core.specs.Weights.{Weighted, weighted_all}
use Rattle.interior_point_theory.specs.Interior.{SystemLess, IsInteriorPointSystem}
use Rattle.weight_enum.specs.Taken.{AreSearched}
use Rattle.weight_enum.specs.declared.search.Listed.{Listed}

-- an interior-point system with dim + 1 weights whose degree is at least low and below the next one
pub record IsSystemBelow (dim low next : ℕ) (system : Weighted) : Type 0 where
  pub columns : length system.weights ≡ dim + 1
  pub least : low ≤ system.degree
  pub below : system.degree < next
  pub is_system : IsInteriorPointSystem system

-- the systems below the next degree are those that were given, and those that are left of the listed ones
pub record IsPlace (dim low high given : ℕ) (listed : Listed) : Type 0 where
  pub searched : AreSearched high (dim + 1)
  pub degrees : ℕ
  pub low_is : low + degrees ≡ listed.next
  pub next_is : listed.next ≤ high + 1
  pub within : listed.place ≤ length listed.systems.items
  pub before : List Weighted
  pub are_below : Lists SystemLess (IsSystemBelow dim low listed.next) (before ++ weighted_all (drop listed.place listed.systems.items))
  pub given_is : length before ≡ given
  pub few : given + length (drop listed.place listed.systems.items) ≤ degrees * 2 ^ 64

-- the same systems were given
abbrev pub KeepsPlace : ℕ → ℕ → Listed → Listed → Type 0
KeepsPlace dim high old new = (low given : ℕ) → IsPlace dim low high given old → IsPlace dim low high given new

-- a system is left of the listed ones, or no degree is left
abbrev pub IsFilled : ℕ → Listed → Type 0
IsFilled high listed = (listed.place < length listed.systems.items) ⊎ (high < listed.next)
