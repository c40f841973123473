-- Why the points of a dual aren't handed out. This project's own.
use Rattle.std.specs.Prelude.{◌≡◌, ℕ, ◌+◌, List, ℤ}
use Rattle.lattice_core.specs.declared.limits.TheConstants.{MOST_POINTS}
use Rattle.lattice_core.specs.declared.faults.LimitName.TheVariants as limits
use Rattle.lattice_core.specs.declared.faults.Refusal.{Refusal}
use Rattle.lattice_core.specs.declared.faults.Refusal.TheVariants as refusals
use Rattle.point_scan.specs.Faults.{HasMorePoints}

-- too many lattice points are refused by the limit on the dual's points, with the limit and one
abbrev pub IsDualScanRefusal : ℕ → List (List ℤ) → Refusal → Type 0
IsDualScanRefusal n points (refusals.Flat f) = ⊥
IsDualScanRefusal n points (refusals.Limit name told) = (name ≡ limits.DualPoints) × (told ≡ MOST_POINTS + 1) × HasMorePoints n points MOST_POINTS
