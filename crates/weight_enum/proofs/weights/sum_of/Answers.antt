use Rattle.std.proofs.Common.{arith}
use Rattle.weight_enum.proofs.Ascending.{total_drop, total_end}
use Rattle.weight_enum.proofs.weights.sum_of.Goals as goal

pub overflow_add-sum : goal.overflow_add-sum
overflow_add-sum c =
    let split = total_drop c.args.weights.now c.loop-w.w-index c.loop-w-test.true in
    let invariant = c.loop-w.invariant in
    let small = c.requires in
    omega (arith, split, invariant, small)

pub loop-w-preserved : goal.loop-w-preserved
loop-w-preserved c =
    let split = total_drop c.args.weights.now c.loop-w.w-index c.loop-w-test.true in
    let invariant = c.loop-w.invariant in
    omega (arith, split, invariant)

pub returns : goal.returns
returns c = total_end c.args.weights.now c.loop-w.w-index c.loop-w.sum (omega arith) c.loop-w.invariant
