use Rattle.std.proofs.Common.{take}
use Rattle.nef_parts.specs.steps.Beginnings.{IsBeginning}
use Rattle.nef_parts.proofs.beginnings.beginning_of.Given as goal

abbrev pub invariant-loop-e : goal.invariant-loop-e
invariant-loop-e l = IsBeginning (take l.e l.parts) l.begin
