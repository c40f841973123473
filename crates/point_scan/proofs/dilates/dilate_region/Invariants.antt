use Rattle.lattice_core.specs.Dimensions.{dimension_of}
use Rattle.point_scan.specs.ScanSteps.{HoldsDilate}
use Rattle.point_scan.proofs.dilates.dilate_region.Given as goal

abbrev pub invariant-loop-i : goal.invariant-loop-i
invariant-loop-i l = HoldsDilate (dimension_of l.vertices) l.vertices l.dilate l.facets l.region
