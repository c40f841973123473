use Rattle.std.proofs.Common.{arith}
use Rattle.weight_frame.specs.Frame.{IsZeroVector}
use Rattle.weight_frame.proofs.Largest.{zero_small}
use Rattle.weight_frame.proofs.vector.zero_vector.Goals as goal

pub returns : goal.returns
returns c =
    let zero : IsZeroVector c.args.n c.loop-place.entries.items = record {
      dimension = omega arith;
      zeros = c.loop-place.invariant.zeros;
    } in
    rw c.new.ensures (record { zero = zero; within = zero_small c.args.n _ zero })
