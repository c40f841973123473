use Rattle.incidence.specs.RowSteps.{AddsRows, IsMembersRow}
use Rattle.incidence.proofs.values.push_members.Given as goal

abbrev pub invariant-loop-m : goal.invariant-loop-m
invariant-loop-m l = record { adds : AddsRows l.fn.pool l.pool l.m (IsMembersRow l.points l.functions) }
