use Rattle.normal_bounds.proofs.Counting.{counting_bound_lem}
use Rattle.normal_bounds.proofs.bounds.counting_bound.Goals as goal

pub returns : goal.returns
returns c = counting_bound_lem
