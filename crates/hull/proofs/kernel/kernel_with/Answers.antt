use Rattle.std.proofs.Common.{refl}
use Rattle.hull.proofs.Pivots.{without_pivot}
use Rattle.hull.proofs.kernel.kernel_with.Goals as goal

pub returns-in-None-clause-kernel : goal.returns-in-None-clause-kernel
returns-in-None-clause-kernel c =
    without_pivot _ c.args.kernel.items c.args.v.now c.args.kernel.items refl (rw c.as_slice.ensures.value at c.in-None.ensures.stays)

pub returns-in-Some-clause-kernel : goal.returns-in-Some-clause-kernel
returns-in-Some-clause-kernel c = rw c.as_slice.ensures.value at c.in-Some.ensures.kernel
