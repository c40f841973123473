use Rattle.std.specs.Prelude.{ℤ, ◌≡◌}
use Rattle.std.proofs.Common.{◌≤◌, length, List}
use Rattle.lattice_core.specs.Dimensions.{dimension_of}
use Rattle.point_scan.proofs.Scans.{IsScanned, left}
use Rattle.point_scan.proofs.points.count_to.Given as goal

abbrev pub invariant-loop-count : goal.invariant-loop-count
invariant-loop-count l = record {
  found : List (List ℤ);
  scanned : IsScanned (dimension_of l.vertices) l.vertices l.dilate l.facets l.walk found;
  counted : l.count ≡ length found;
  few : l.count ≤ l.limit;
}

abbrev pub decreases-loop-count : goal.decreases-loop-count
decreases-loop-count l = left l.walk
