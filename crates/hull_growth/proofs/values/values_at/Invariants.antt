use Rattle.std.proofs.Common.{take}
use Rattle.hull_growth.specs.steps.Values.{AreValuesAt}
use Rattle.hull_growth.proofs.values.values_at.Given as goal

abbrev pub invariant-loop-f : goal.invariant-loop-f
invariant-loop-f l = AreValuesAt l.p (take l.f-index l.functions) l.values.items
