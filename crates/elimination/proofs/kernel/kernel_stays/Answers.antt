use Rattle.elimination.proofs.KernelLaws.{kernel_stays_lem}
use Rattle.elimination.proofs.kernel.kernel_stays.Goals as goal

pub returns : goal.returns
returns c = kernel_stays_lem
