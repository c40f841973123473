-- Which numbers the first of some weights take exactly. This project's own.
use Rattle.std.specs.Prelude.{◌≡◌, ◌↔◌, ℕ, ◌+◌, ◌*◌, ◌<◌, ◌≤◌, Bool, true, false, List, length, take, slice_index_or}
use Rattle.weight_points.specs.steps.Waits.{CanTake}

-- the level of a number
abbrev pub level : List ℕ → ℕ → ℕ
level levels n = slice_index_or levels n 0

-- the level of a number is how many of the first weights are needed to take it exactly, or more than there are where they don't take it
abbrev pub AreLevels : List ℕ → List ℕ → Type 0
AreLevels weights levels = (k n : ℕ) → k ≤ length weights → n < length levels → (level levels n ≤ k) ↔ CanTake (take k weights) n

-- up to so many weights the levels tell the same
abbrev pub TellAlike : ℕ → List ℕ → List ℕ → Type 0
TellAlike count old new = (k n : ℕ) → k ≤ count → n < length old → (level old n ≤ k) ↔ (level new n ≤ k)

-- the weights take the degree with the one at the place twice
abbrev pub TakesTwice : ℕ → List ℕ → ℕ → Type 0
TakesTwice degree weights i = (rest : ℕ) × ((rest + 2 * slice_index_or weights i 0 ≡ degree) × CanTake weights rest)

-- what is answered: they take it with each of them twice, or there is one with which they don't
abbrev pub IsTwiceAnswer : ℕ → List ℕ → Bool → Type 0
IsTwiceAnswer degree weights true = (i : ℕ) → i < length weights → TakesTwice degree weights i
IsTwiceAnswer degree weights false = (i : ℕ) × ((i < length weights) × (TakesTwice degree weights i → ⊥))
