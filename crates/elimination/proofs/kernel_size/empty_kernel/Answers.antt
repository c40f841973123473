use Rattle.elimination.proofs.KernelSize.{empty_kernel_lem}
use Rattle.elimination.proofs.kernel_size.empty_kernel.Goals as goal

pub returns : goal.returns
returns c = empty_kernel_lem
