use Rattle.weight_points.proofs.Entries.{exponents_small}
use Rattle.weight_points.proofs.laws.exponents_are_small.Goals as goal

pub returns : goal.returns
returns c = exponents_small
