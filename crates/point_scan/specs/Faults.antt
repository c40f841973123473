-- What a scan is refused for. This project's own.
use Rattle.std.specs.Prelude.{◌≡◌, ℕ, ◌+◌, ◌<◌, List, length, ℤ}
use Rattle.lattice_theory.specs.Points.{AreLatticePoints}
use Rattle.lattice_core.specs.declared.limits.TheConstants.{MOST_POINTS}
use Rattle.lattice_core.specs.declared.faults.LimitName.TheVariants as names
use Rattle.lattice_core.specs.declared.faults.Refusal.{Refusal}
use Rattle.lattice_core.specs.declared.faults.Refusal.TheVariants as refusals

-- the points' hull has more than `most` lattice points
pub record HasMorePoints (n : ℕ) (points : List (List ℤ)) (most : ℕ) : Type 0 where
  pub lattice : List (List ℤ)
  pub are_lattice_points : AreLatticePoints n points lattice
  pub more : most < length lattice

-- too many lattice points are refused by the limit on points, with the limit and one
abbrev pub IsScanRefusal : ℕ → List (List ℤ) → Refusal → Type 0
IsScanRefusal n points (refusals.Flat f) = ⊥
IsScanRefusal n points (refusals.Limit name told) = (name ≡ names.Points) × (told ≡ MOST_POINTS + 1) × HasMorePoints n points MOST_POINTS
