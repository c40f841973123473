use Rattle.interior_point_theory.proofs.Following.{weights_may_follow_lem}
use Rattle.interior_point_theory.proofs.cuts.weights_may_follow.Goals as goal

pub returns : goal.returns
returns c = weights_may_follow_lem
