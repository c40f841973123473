use Rattle.std.specs.Prelude.{List, ℤ}
use Rattle.std.proofs.Common.{◌≡◌}
use Rattle.lattice_core.specs.Dimensions.{dimension_of}
use Rattle.point_scan.specs.Visits.{Visited}
use Rattle.point_scan.proofs.Scans.{IsScanned, left}
use Rattle.point_scan.proofs.visits.for_each_dilate.Given as goal

abbrev pub invariant-loop-walk : goal.invariant-loop-walk
invariant-loop-walk g l = record {
  found : List (List ℤ);
  scanned : IsScanned (dimension_of l.vertices) l.vertices l.dilate l.facets l.walk found;
  dimension : g.V.Visitor.dimension l.visitor ≡ g.V.Visitor.dimension l.fn.visitor;
  visited : Visited g.V.Visitor.visits l.fn.visitor found l.visitor;
}

abbrev pub decreases-loop-walk : goal.decreases-loop-walk
decreases-loop-walk g l = left l.walk
