use Rattle.std.proofs.Common.{◌≤◌, length}
use Rattle.lattice_core.specs.declared.limits.TheConstants.{MOST_POINTS}
use Rattle.lattice_core.specs.Dimensions.{dimension_of}
use Rattle.point_scan.proofs.Scans.{IsScanned, left}
use Rattle.point_scan.proofs.points.scan.Given as goal

abbrev pub invariant-loop-told : goal.invariant-loop-told
invariant-loop-told l = record {
  scanned : IsScanned (dimension_of l.vertices) l.vertices 1 l.facets l.walk l.points.items;
  few : length l.points.items ≤ MOST_POINTS;
}

abbrev pub decreases-loop-told : goal.decreases-loop-told
decreases-loop-told l = left l.walk
