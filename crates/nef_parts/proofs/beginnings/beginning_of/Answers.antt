use Rattle.nef_parts.proofs.BeginningSteps.{used_or_next}
use Rattle.nef_parts.proofs.beginnings.beginning_of.Goals as goal

pub with-begin-requires-clause-growth : goal.with-begin-requires-clause-growth
with-begin-requires-clause-growth c =
    (used_or_next c.args.parts.now c.args.count c.loop-e.e c.loop-e.begin c.loop-e-test.true c.requires.count c.requires.growth
    c.loop-e.invariant).0
