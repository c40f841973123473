use Rattle.std.proofs.Common.{◌≡◌, ◌↔◌, ℕ, ◌<◌, [], length, get_or}
use Rattle.weight_points.specs.declared.waits.TheConstants.{NEVER}
use Rattle.weight_points.specs.steps.Waits.{CanTake}
use Rattle.weight_points.proofs.waits.waits_of_none.Given as goal

abbrev pub invariant-loop-number : goal.invariant-loop-number
invariant-loop-number l = record {
  columns : length l.waits.items ≡ l.number;
  known : (m : ℕ) → m < l.number → (get_or l.waits.items m 0 < NEVER) ↔ CanTake [] m;
}
