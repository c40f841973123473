use Rattle.lattice_core.specs.Dimensions.{dimension_of}
use Rattle.hull.proofs.SimplexLoop.{IsPlacedBelow}
use Rattle.hull.proofs.simplex.first_simplex.Given as goal

abbrev pub invariant-loop-place : goal.invariant-loop-place
invariant-loop-place l = IsPlacedBelow (dimension_of l.points) l.points l.place l.corners.items l.functions.items
