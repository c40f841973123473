use Rattle.std.proofs.Common.{arith}
use Rattle.stringy.proofs.RowDifferences.{differences_small}
use Rattle.stringy.proofs.rows.take_all_differences.Goals as goal

pub take_differences-requires : goal.take_differences-requires
take_differences-requires c = record {
  small = differences_small c.loop-time.row c.args.row.now c.loop-time.time (let h = c.loop-time-test.true in let f = c.requires.few in omega arith) c.requires.small
      c.loop-time.invariant.done c.loop-time.invariant.long;
}
