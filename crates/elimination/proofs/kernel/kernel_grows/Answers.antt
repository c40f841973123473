use Rattle.elimination.proofs.KernelLaws.{kernel_grows_lem}
use Rattle.elimination.proofs.kernel.kernel_grows.Goals as goal

pub returns : goal.returns
returns c = kernel_grows_lem
