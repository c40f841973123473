use Rattle.interior_point_theory.proofs.ExponentsAboveOne.{taken_twice_lem}
use Rattle.interior_point_theory.proofs.cuts.taken_twice.Goals as goal

pub returns : goal.returns
returns c = taken_twice_lem
