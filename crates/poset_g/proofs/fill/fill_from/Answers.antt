use Rattle.std.proofs.Common.{length, ◌≤◌, arith}
use Rattle.poset_g.proofs.IntervalNumbers.{found_behind}
use Rattle.poset_g.proofs.FilledRows.{skip_lower, skip_higher, row_ends}
use Rattle.poset_g.proofs.fill.fill_from.Goals as goal

pub find_above-requires-clause-lower : goal.find_above-requires-clause-lower
find_above-requires-clause-lower c z p e = found_behind c.args.table.now c.args.places.now c.requires.ready.places c.requires.ready.faces c.args.from z p e

pub loop-to-init : goal.loop-to-init
loop-to-init c = record {
  ready = c.requires.ready;
  filled = skip_lower c.args.table.now c.requires.ready.faces c.args.places.now c.args.values.now.items c.args.gap c.args.from c.args.first c.requires.lower
      c.requires.filled;
}

pub returns-then-rank-clause-filled : goal.returns-then-rank-clause-filled
returns-then-rank-clause-filled c = row_ends c.args.table.now c.requires.ready.faces c.args.places.now c.loop-to.values.items c.args.gap c.args.from
    (length c.args.table.now.faces) (omega arith)
    (skip_higher c.args.table.now c.requires.ready.faces c.args.places.now c.loop-to.values.items c.args.gap c.args.from c.loop-to.to
    (let e = c.if-rank.true in omega arith) c.loop-to.invariant.filled)

pub returns-clause-filled : goal.returns-clause-filled
returns-clause-filled c = row_ends c.args.table.now c.requires.ready.faces c.args.places.now c.loop-to.values.items c.args.gap c.args.from
    c.loop-to.to (ended c) c.loop-to.invariant.filled
  where
    ended : (c : goal.After-loop-to) → length c.args.table.now.faces ≤ c.loop-to.to
    ended c = let e = c.loop-to-test.false in let v = c.len-to-end.ensures.value in omega arith
