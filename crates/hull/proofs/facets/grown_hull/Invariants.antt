use Rattle.std.proofs.Common.{length}
use Rattle.hull.specs.steps.Growing.{IsGrowing, others_than}
use Rattle.hull.proofs.facets.grown_hull.Given as goal

abbrev pub invariant-loop-beyond : goal.invariant-loop-beyond
invariant-loop-beyond l = IsGrowing l.points l.growth.corners l.growth.facets l.done

abbrev pub decreases-loop-beyond : goal.decreases-loop-beyond
decreases-loop-beyond l = length (others_than l.growth.corners l.points)
