use Rattle.normal_bounds.proofs.Sizes.{difference_absolute_sum_lem}
use Rattle.normal_bounds.proofs.absolute_sums.difference_absolute_sum.Goals as goal

pub returns : goal.returns
returns c = difference_absolute_sum_lem
