use Rattle.elimination.proofs.KernelLaws.{kernel_steps_lem}
use Rattle.elimination.proofs.kernel.kernel_steps.Goals as goal

pub returns : goal.returns
returns c = kernel_steps_lem
