use Rattle.elimination.proofs.KernelLaws.{kernel_starts_lem}
use Rattle.elimination.proofs.kernel.kernel_starts.Goals as goal

pub returns : goal.returns
returns c = kernel_starts_lem
