use Rattle.std.proofs.Common.{ℕ, ◌-◌, ◌≤◌}
use Rattle.std.specs.List.{All}
use Rattle.lattice_core.specs.declared.limits.TheConstants.{MOST_DEGREE}
use Rattle.weight_points.specs.steps.Rows.{IsPlausible}
use Rattle.weight_points.proofs.rows.next_value.Given as goal

abbrev pub invariant-loop-next : goal.invariant-loop-next
invariant-loop-next l = record {
  above : l.from ≤ l.value;
  small : l.value ≤ MOST_DEGREE;
  least : (u : ℕ) → l.from ≤ u → All (IsPlausible l.place u) l.rows → l.value ≤ u;
}

abbrev pub decreases-loop-next : goal.decreases-loop-next
decreases-loop-next l = MOST_DEGREE - l.value
