use Rattle.interior_point_theory.proofs.WeightWalks.{weight_walk_lem}
use Rattle.interior_point_theory.proofs.walks.weight_walk.Goals as goal

pub returns : goal.returns
returns c = weight_walk_lem
