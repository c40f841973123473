use Rattle.std.proofs.Common.{◌≡◌, length, arith}
use Rattle.hull.proofs.Kernels.{kernel_started}
use Rattle.hull.proofs.kernel.kernel_of_none.Goals as goal

pub returns-clause-kernel : goal.returns-clause-kernel
returns-clause-kernel c =
    let past : c.loop-i.i ≡ c.args.n = omega arith in
    let count : length c.loop-i.members.items ≡ c.args.n = omega arith in
    kernel_started c.args.n c.loop-i.members.items count (λ i d h. c.loop-i.invariant.units i d (omega arith))
