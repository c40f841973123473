-- The listing of tails, from the last place to the first. This project's own.
use Rattle.std.specs.Prelude.{◌≡◌, ◌≢◌, ◌⊎◌, ◌↔◌, ℕ, List, length, map, take, drop, ℤ, pos, ◌-ℤ◌}
use Rattle.std.specs.List.{Contains}
use Rattle.lattice_theory.specs.Order.{Ascends}
use Rattle.weight_points.specs.steps.Waits.{spent}

-- an exponent less 1
abbrev pub lowered : ℕ → ℤ
lowered e = pos e -ℤ pos 1

-- the tail of exponents: those behind the first, less 1
abbrev pub tail_of : List ℕ → List ℤ
tail_of exponents = map lowered (drop 1 exponents)

-- y is the tail of exponents that are those of the entries from the place on, and of which those before it take what is left
pub record IsListed (weights entries : List ℕ) (place left : ℕ) (y : List ℤ) : Type 0 where
  pub exponents : List ℕ
  pub columns : length exponents ≡ length weights
  pub takes : spent (take place weights) exponents ≡ left
  pub agrees : drop place exponents ≡ drop place entries
  pub same : y ≡ tail_of exponents

-- the members afterwards are those before and the y of which P holds
abbrev pub AddsEach : (List ℤ → Type 0) → List (List ℤ) → List (List ℤ) → Type 0
AddsEach P old new = (y : List ℤ) → Contains new y ↔ (Contains old y ⊎ P y)

-- no vector of the list stands there again
abbrev pub AreOnce : List (List ℤ) → Type 0
AreOnce xs = Ascends (λ x y. x ≢ y) xs

-- where no vector stands twice, and none of which P holds stands there, none stands twice afterwards
abbrev pub StayOnce : (List ℤ → Type 0) → List (List ℤ) → List (List ℤ) → Type 0
StayOnce P old new = AreOnce old → ((y : List ℤ) → Contains old y → P y → ⊥) → AreOnce new
