use Rattle.std.proofs.Common.{◌≢◌, ◌+◌, arith}
use Rattle.face_poset.specs.Faces.{face_at}
use Rattle.poset_g.specs.Numbered.{numbered}
use Rattle.poset_g.proofs.FilledRows.{skip_rank, whole_interval}
use Rattle.poset_g.proofs.fill.fill_pair.Goals as goal

pub returns-then-upper-lower-clause-filled : goal.returns-then-upper-lower-clause-filled
returns-then-upper-lower-clause-filled c = skip_rank c.args.table.now c.requires.ready.faces c.args.places.now c.args.values.now.items c.args.gap c.args.from c.args.to
    (differs c) c.requires.filled
  where
    differs : (c : goal.Then-upper-lower) → (face_at c.args.table.now.faces c.args.to).rank ≢ (face_at c.args.table.now.faces c.args.from).rank + c.args.gap
    differs c e = c.if-upper-lower.true (let f = c.rank-lower.ensures in let g = c.rank-upper.ensures in omega arith)

pub returns-in_ok-fill_interval-in-Some-clause-filled : goal.returns-in_ok-fill_interval-in-Some-clause-filled
returns-in_ok-fill_interval-in-Some-clause-filled c = whole_interval c.args.table.now c.requires.ready.faces c.args.places.now c.fill_interval.new.values.items
    c.args.gap c.args.from c.args.to ((numbered c.args.table.now).gap c.args.from c.args.to)
    (let e = c.if-upper-lower.false in let f = c.rank-lower.ensures in let g = c.rank-upper.ensures in omega arith)
    c.in_ok-fill_interval-in-Some.ensures.filled
