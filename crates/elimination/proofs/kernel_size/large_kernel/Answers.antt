use Rattle.elimination.proofs.KernelSize.{large_kernel_lem}
use Rattle.elimination.proofs.kernel_size.large_kernel.Goals as goal

pub returns : goal.returns
returns c = large_kernel_lem
