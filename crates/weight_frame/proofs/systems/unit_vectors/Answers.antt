use Rattle.std.proofs.Common.{◌≡◌, [], length, arith}
use Rattle.weight_frame.proofs.Reaching.{units_reached}
use Rattle.weight_frame.proofs.systems.unit_vectors.Goals as goal

pub returns : goal.returns
returns c =
    let count : length c.loop-i.vectors.items ≡ c.args.n = omega arith in
    units_reached c.args.n c.loop-i.vectors.items (record { count = count; units = λ i h. c.loop-i.invariant.units i [] (omega arith) })
