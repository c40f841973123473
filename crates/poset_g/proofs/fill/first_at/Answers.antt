use Rattle.std.proofs.Common.{arith}
use Rattle.poset_g.proofs.FilledRows.{one_lower, all_lower}
use Rattle.poset_g.proofs.fill.first_at.Goals as goal

pub loop-face-init : goal.loop-face-init
loop-face-init c = record { before = c.requires.before }

pub loop-face-preserved : goal.loop-face-preserved
loop-face-preserved c = record {
  before = one_lower c.args.table.now c.loop-face.face c.args.rank c.loop-face.invariant.before
      (let e = c.if-rank.false in let f = c.rank.ensures in omega arith);
}

pub returns : goal.returns
returns c = record {
  before = all_lower c.args.table.now c.loop-face.face c.len.result c.args.rank
      (let e = c.loop-face-test.false in let v = c.len-face-end.ensures.value in omega arith) c.loop-face.invariant.before;
}
