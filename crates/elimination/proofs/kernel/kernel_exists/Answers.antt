use Rattle.elimination.proofs.KernelLaws.{kernel_exists_lem}
use Rattle.elimination.proofs.kernel.kernel_exists.Goals as goal

pub returns : goal.returns
returns c = kernel_exists_lem
