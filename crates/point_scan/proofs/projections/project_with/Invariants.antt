use Rattle.std.specs.List.{All}
use Rattle.std.proofs.Common.{◌≤◌, length}
use Rattle.lattice_core.specs.Dimensions.{dimension_of}
use Rattle.point_scan.specs.ProjectionSteps.{IsBound}
use Rattle.point_scan.proofs.projections.project_with.Given as goal

abbrev pub invariant-loop-j : goal.invariant-loop-j
invariant-loop-j l = record {
  bounds : All (λ b. IsBound (dimension_of l.vertices) l.vertices b.function) l.bounds.items;
  longer : length l.fn.bounds.items ≤ length l.bounds.items;
}
