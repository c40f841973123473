use Rattle.hull.proofs.Pivots.{with_pivot, with_pivot_length}
use Rattle.hull.proofs.kernel.changed_kernel.Goals as goal

pub returns-in-Some-clause-kernel : goal.returns-in-Some-clause-kernel
returns-in-Some-clause-kernel c = with_pivot _ c.args.kernel.now c.args.v.now c.in-Some.place c.stepped.result.items c.in-Some.ensures
    (c.stepped.ensures c.in-Some.ensures)

pub returns-in-Some-clause-count : goal.returns-in-Some-clause-count
returns-in-Some-clause-count c = with_pivot_length c.args.kernel.now c.args.v.now c.in-Some.place c.stepped.result.items c.in-Some.ensures
    (c.stepped.ensures c.in-Some.ensures)
