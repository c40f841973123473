use Rattle.std.proofs.Common.{ℕ, ◌<◌, ◌≤◌}
use Rattle.base_counts.specs.Counting.{count_at}
use Rattle.cone_counts.specs.declared.limits.TheConstants.{MOST_PAIRS}
use Rattle.cone_counts.proofs.sides.is_large.Given as goal

abbrev pub invariant-loop-degree : goal.invariant-loop-degree
invariant-loop-degree l = (s : ℕ) → s < l.degree → count_at l.counts l.set s ≤ MOST_PAIRS
