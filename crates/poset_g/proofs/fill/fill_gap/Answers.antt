use Rattle.std.proofs.Common.{ℕ, ◌+◌, ◌≤◌, ap, subst, sym, length, arith}
use Rattle.poset_g.specs.FillSteps.{AreLower}
use Rattle.poset_g.proofs.FilledRows.{still_lower, gap_ends}
use Rattle.poset_g.proofs.fill.fill_gap.Goals as goal

pub loop-from-init : goal.loop-from-init
loop-from-init c = record {
  ready = c.requires.ready;
  filled = c.requires.filled;
  lower = λ later l m z k i. absurd (omega arith);
}

pub first_at-first-requires : goal.first_at-first-requires
first_at-first-requires c = record {
  before = subst (λ (rank : ℕ). AreLower c.args.table.now c.loop-from.first (rank + c.args.gap)) (sym c.rank.ensures)
      (c.loop-from.invariant.lower c.loop-from.from (omega arith) (let e = c.loop-from-test.true in let v = c.len-from-end.ensures.value in omega arith));
}

pub fill_from-requires-clause-lower : goal.fill_from-requires-clause-lower
fill_from-requires-clause-lower c = subst (λ (rank : ℕ). AreLower c.args.table.now c.first_at-first.result (rank + c.args.gap)) c.rank.ensures c.first_at-first.ensures.before

pub loop-from-preserved : goal.loop-from-preserved
loop-from-preserved c = record {
  ready = c.fill_from.ensures.ready;
  filled = c.in_ok-fill_from.ensures.filled;
  lower = λ later l m. still_lower c.args.table.now c.requires.ready.faces c.first_at-first.result c.loop-from.from later c.args.gap
      (subst (λ (rank : ℕ). AreLower c.args.table.now c.first_at-first.result (rank + c.args.gap)) c.rank.ensures c.first_at-first.ensures.before) (omega arith) m;
}

pub returns-clause-filled : goal.returns-clause-filled
returns-clause-filled c = gap_ends c.args.table.now c.requires.ready.faces c.args.places.now c.loop-from.values.items c.args.gap c.loop-from.from (ended c)
    c.loop-from.invariant.filled
  where
    ended : (c : goal.After-loop-from) → length c.args.table.now.faces ≤ c.loop-from.from
    ended c = let e = c.loop-from-test.false in let v = c.len-from-end.ensures.value in omega arith
