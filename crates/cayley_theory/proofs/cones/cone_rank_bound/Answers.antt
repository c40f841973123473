use Rattle.cayley_theory.proofs.ConeVectors.{cone_rank_bound_lem}
use Rattle.cayley_theory.proofs.cones.cone_rank_bound.Goals as goal

pub returns : goal.returns
returns c = cone_rank_bound_lem
