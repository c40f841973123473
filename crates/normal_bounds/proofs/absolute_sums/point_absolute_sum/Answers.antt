use Rattle.normal_bounds.proofs.Sizes.{point_absolute_sum_lem}
use Rattle.normal_bounds.proofs.absolute_sums.point_absolute_sum.Goals as goal

pub returns : goal.returns
returns c = point_absolute_sum_lem
