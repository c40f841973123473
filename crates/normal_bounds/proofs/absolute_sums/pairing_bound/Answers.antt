use Rattle.normal_bounds.proofs.Sizes.{pairing_bound_lem}
use Rattle.normal_bounds.proofs.absolute_sums.pairing_bound.Goals as goal

pub returns : goal.returns
returns c = pairing_bound_lem
