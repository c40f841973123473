use Rattle.std.proofs.Common.{arith}
use Rattle.lattice_theory.specs.Vector.{IsUnitVector}
use Rattle.weight_frame.proofs.Largest.{unit_small}
use Rattle.weight_frame.proofs.vector.unit_vector.Goals as goal

pub returns : goal.returns
returns c =
    let unit : IsUnitVector c.args.n c.args.i c.loop-j.entries.items = record {
      dimension = omega arith;
      one = c.loop-j.invariant.one (omega arith);
      zeros = c.loop-j.invariant.zeros;
    } in
    rw c.new.ensures (record { unit = unit; within = unit_small c.args.n c.args.i _ unit })
