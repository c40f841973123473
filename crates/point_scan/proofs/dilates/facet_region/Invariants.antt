use Rattle.std.proofs.Common.{take}
use Rattle.lattice_core.specs.Dimensions.{dimension_of}
use Rattle.point_scan.specs.ScanSteps.{HoldsDilate}
use Rattle.point_scan.proofs.dilates.facet_region.Given as goal

abbrev pub invariant-loop-facet : goal.invariant-loop-facet
invariant-loop-facet l = HoldsDilate (dimension_of l.vertices) l.vertices l.dilate (take l.facet-index l.facets) l.region
