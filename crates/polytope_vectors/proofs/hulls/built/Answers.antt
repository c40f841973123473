use Rattle.polytope_vectors.proofs.FrontPoints.{next_dimension}
use Rattle.polytope_vectors.proofs.hulls.built.Goals as goal

pub insert-requires : goal.insert-requires
insert-requires c = next_dimension c.args.points.now c.loop-i.builder.points c.loop-i.i c.index-points-i.result c.requires.points.one_dimension
    c.loop-i.invariant.some c.loop-i-test.true c.index-points-i.is c.loop-i.invariant.same
