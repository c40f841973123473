use Rattle.incidence.specs.RowSteps.{AddsRows, IsFunctionsRow}
use Rattle.incidence.proofs.values.push_functions.Given as goal

abbrev pub invariant-loop-f : goal.invariant-loop-f
invariant-loop-f l = record { adds : AddsRows l.fn.pool l.pool l.f (IsFunctionsRow l.points l.functions) }
