use Rattle.interior_point_theory.proofs.ExponentsAboveOne.{some_exponent_above_one_lem}
use Rattle.interior_point_theory.proofs.cuts.some_exponent_above_one.Goals as goal

pub returns : goal.returns
returns c = some_exponent_above_one_lem
