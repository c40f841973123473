use Rattle.elimination.proofs.KernelPlaces.{kernel_earliest_lem}
use Rattle.elimination.proofs.places.kernel_earliest.Goals as goal

pub returns : goal.returns
returns c = kernel_earliest_lem
