use Rattle.std.specs.Prelude.{pos, ◌+ℤ◌}
use Rattle.std.proofs.Common.{◌≡◌, ◌++◌}
use Rattle.region_walk.specs.Walks.{run_from}
use Rattle.point_scan.proofs.runs.push_run.Given as goal

abbrev pub invariant-loop : goal.invariant-loop
invariant-loop l = record {
  last : l.last ≡ l.walk.run.low +ℤ pos l.counter;
  pushed : l.points.items ≡ l.fn.points.items ++ run_from l.walk.beginning.entries.items l.walk.run.low l.counter;
}
