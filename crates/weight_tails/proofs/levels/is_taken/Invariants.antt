use Rattle.std.proofs.Common.{◌≡◌, ℕ, ◌+◌, ◌*◌, ◌<◌, take, get_or}
use Rattle.weight_points.specs.steps.Waits.{CanTake}
use Rattle.weight_tails.proofs.levels.is_taken.Given as goal

abbrev pub invariant-loop-times : goal.invariant-loop-times
invariant-loop-times l = (t m : ℕ) → t < l.times → m + t * get_or l.weights l.last 0 ≡ l.number → CanTake (take l.last l.weights) m → ⊥
