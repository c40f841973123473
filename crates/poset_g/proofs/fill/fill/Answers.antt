use Rattle.std.proofs.Common.{◌≡◌, ℕ, subst, arith}
use Rattle.poset_g.specs.FillSteps.{AreFilled}
use Rattle.poset_g.proofs.fill.fill.Goals as goal

pub returns-clause-filled : goal.returns-clause-filled
returns-clause-filled c = subst (λ (gap : ℕ). AreFilled c.args.table.now c.args.places.now c.loop-gap.values.items gap 0 0 0) (ended c) c.loop-gap.invariant.filled
  where
    ended : (c : goal.After-drop-higher-2) → c.loop-gap.gap ≡ 9
    ended c = let e = c.loop-gap-test.false in let f = c.loop-gap.auto.gap-end in omega arith
