use Rattle.std.specs.Prelude.{pos, ◌+ℤ◌}
use Rattle.std.proofs.Common.{◌≡◌}
use Rattle.region_walk.specs.Walks.{run_from}
use Rattle.point_scan.specs.Visits.{Visited}
use Rattle.point_scan.proofs.visits.visit_run.Given as goal

abbrev pub invariant-loop : goal.invariant-loop
invariant-loop g l = record {
  last : l.last ≡ l.walk.run.low +ℤ pos l.counter;
  dimension : g.V.Visitor.dimension l.visitor ≡ g.V.Visitor.dimension l.fn.visitor;
  visited : Visited g.V.Visitor.visits l.fn.visitor (run_from l.walk.beginning.entries.items l.walk.run.low l.counter) l.visitor;
}
