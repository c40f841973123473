use Rattle.elimination.proofs.KernelSize.{few_determine_lem}
use Rattle.elimination.proofs.kernel_size.few_determine.Goals as goal

pub returns : goal.returns
returns c = few_determine_lem
