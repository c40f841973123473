use Rattle.std.proofs.Common.{◌≡◌, take}
use Rattle.point_scan.specs.Visits.{Visited}
use Rattle.dilate_counts.proofs.keeper.visit_all.Given as goal

abbrev pub invariant-loop-point : goal.invariant-loop-point
invariant-loop-point g l = record {
  dimension : g.V.Visitor.dimension l.visitor ≡ g.V.Visitor.dimension l.fn.visitor;
  visited : Visited g.V.Visitor.visits l.fn.visitor (take l.point-index l.points) l.visitor;
}
