-- The law of this crate, as a statement. This project's own.
use Rattle.std.specs.Prelude.{◌≡◌, ℕ, ◌+◌, ◌≤◌, List, length, ℤ}
use Rattle.lattice_theory.specs.Size.{absolute_sum}
use Rattle.interior_point_theory.specs.Around.{HasTails}
use Rattle.lattice_core.specs.Weights.{Weighted}
use Rattle.std.specs.List.{Contains}

-- the tails of a system of n + 1 weights have n entries, whose absolute values sum to at most the degree and n
abbrev pub TailsAreSmall : Type 0
TailsAreSmall = (n : ℕ) (system : Weighted) (tails : List (List ℤ)) → HasTails n system tails
    → (y : List ℤ) → Contains tails y → (length y ≡ n) × (absolute_sum y ≤ system.degree + n)
