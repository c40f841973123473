use Rattle.std.proofs.Common.{◌≡◌, ℕ, ◌≤◌, take}
use Rattle.std.specs.List.{All}
use Rattle.lattice_core.specs.declared.limits.TheConstants.{MOST_DEGREE}
use Rattle.weight_points.specs.steps.Rows.{IsPlausible}
use Rattle.weight_points.proofs.rows.raised_value.Given as goal

abbrev pub invariant-loop-row : goal.invariant-loop-row
invariant-loop-row l = record {
  above : l.value ≤ l.next;
  small : l.next ≤ MOST_DEGREE;
  holds : l.next ≡ l.value → All (IsPlausible l.place l.value) (take l.row-index l.rows);
  least : (value : ℕ) → l.value ≤ value → All (IsPlausible l.place value) l.rows → l.next ≤ value;
}
