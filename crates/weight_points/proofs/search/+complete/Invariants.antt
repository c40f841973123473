use Rattle.std.proofs.Common.{◌≡◌, ℕ, ◌+◌, ◌-◌, ◌≤◌, List, length}
use Rattle.lattice_core.specs.declared.limits.TheConstants.{MOST_DEGREE}
use Rattle.weight_points.specs.steps.Rows.{systems_of}
use Rattle.weight_points.specs.steps.Search.{exponent, IsCompletion}
use Rattle.weight_points.proofs.search.+complete.Given as goal

abbrev pub decreases-complete : goal.decreases-complete
decreases-complete l = length l.entries.now - l.place

abbrev pub invariant-loop-value : goal.invariant-loop-value
invariant-loop-value l = record {
  rows : l.rows ≡ l.fn.rows;
  entries : l.entries ≡ l.fn.entries;
  above : l.from ≤ l.value;
  passed : (b : List ℕ) → IsCompletion (systems_of l.fn.rows) l.place l.from l.fn.entries b → l.value ≤ exponent b l.place;
}

abbrev pub decreases-loop-value : goal.decreases-loop-value
decreases-loop-value l = MOST_DEGREE + 1 - l.value
