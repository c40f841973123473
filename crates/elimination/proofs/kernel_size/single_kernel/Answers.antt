use Rattle.elimination.proofs.KernelSize.{single_kernel_lem}
use Rattle.elimination.proofs.kernel_size.single_kernel.Goals as goal

pub returns : goal.returns
returns c = single_kernel_lem
