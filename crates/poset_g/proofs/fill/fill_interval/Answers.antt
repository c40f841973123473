use Rattle.std.proofs.Common.{◌≡◌, arith}
use Rattle.poset_g.specs.Numbered.{numbered}
use Rattle.poset_g.specs.FillSteps.{number_of, place_of}
use Rattle.poset_g.proofs.FilledRows.{filled_at, filled_from, filled_whole}
use Rattle.poset_g.proofs.fill.fill_interval.Goals as goal

pub fill_one-requires-clause-filled : goal.fill_one-requires-clause-filled
fill_one-requires-clause-filled c = filled_from c.args.table.now c.args.places.now c.loop-number.values.items c.args.from c.args.to c.loop-number.number
    c.wanted_at.result.from c.wanted_at.result.to (number_of (place_of c.wanted_at.result)) c.loop-number.invariant.filled
    c.wanted_at.ensures.from c.wanted_at.ensures.to c.wanted_at.ensures.number

pub loop-number-preserved : goal.loop-number-preserved
loop-number-preserved c = record {
  ready = c.fill_one.ensures.ready;
  filled = filled_at c.args.table.now c.args.places.now c.fill_one.new.values.items c.wanted_at.result.from c.wanted_at.result.to
      (number_of (place_of c.wanted_at.result)) c.args.from c.args.to c.loop-number.number c.in_ok-fill_one.ensures.filled
      c.wanted_at.ensures.from c.wanted_at.ensures.to c.wanted_at.ensures.number;
  faces = c.loop-number.invariant.faces;
  few = c.loop-number.invariant.few;
}

pub returns-clause-filled : goal.returns-clause-filled
returns-clause-filled c = filled_whole c.args.table.now c.args.places.now c.loop-number.values.items
    ((numbered c.args.table.now).gap c.args.from c.args.to) c.args.from c.args.to
    c.loop-number.number 8 (ended c) c.loop-number.invariant.filled
  where
    ended : (c : goal.After-loop-number) → c.loop-number.number ≡ 8
    ended c = let e = c.loop-number-test.false in let f = c.loop-number.auto.number-end in omega arith
