use Rattle.std.specs.List.{All}
use Rattle.lattice_core.specs.Dimensions.{dimension_of}
use Rattle.point_scan.specs.ProjectionSteps.{IsBound}
use Rattle.point_scan.proofs.projections.bounds_of.Given as goal

abbrev pub invariant-loop-k : goal.invariant-loop-k
invariant-loop-k l = All (λ b. IsBound (dimension_of l.vertices) l.vertices b.function) l.bounds.items
