use Rattle.std.proofs.Common.{◌≡◌, ℕ, ◌<◌, List, length, get_or}
use Rattle.weight_points.specs.steps.Waits.{IsReach, IsWait}
use Rattle.weight_points.proofs.waits.waits_before.Given as goal

abbrev pub invariant-loop-number : goal.invariant-loop-number
invariant-loop-number l = record {
  columns : length l.waits.items ≡ l.number;
  known : (weights : List ℕ) → IsReach weights l.behind → (m : ℕ) → m < l.number → IsWait l.weight weights m (get_or l.waits.items m 0);
}
