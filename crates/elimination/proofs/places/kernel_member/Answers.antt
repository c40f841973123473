use Rattle.elimination.proofs.KernelPlaces.{kernel_member_lem}
use Rattle.elimination.proofs.places.kernel_member.Goals as goal

pub returns : goal.returns
returns c = kernel_member_lem
