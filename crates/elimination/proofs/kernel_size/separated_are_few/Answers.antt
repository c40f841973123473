use Rattle.elimination.proofs.Separated.{separated_are_few_lem}
use Rattle.elimination.proofs.kernel_size.separated_are_few.Goals as goal

pub returns : goal.returns
returns c = separated_are_few_lem
