use Rattle.std.proofs.Common.{◌≡◌, ℕ, ◌-◌, ◌≤◌, List, length}
use Rattle.nef_theory.specs.Nef.{part_at}
use Rattle.nef_parts.specs.steps.Nef.{IsNefIn}
use Rattle.nef_parts.specs.steps.Completions.{AgreesOn, IsCompletion}
use Rattle.nef_parts.proofs.search.+complete.Given as goal

abbrev pub decreases-complete : goal.decreases-complete
decreases-complete l = length l.parts.now - l.begin.count

abbrev pub invariant-loop-v : goal.invariant-loop-v
invariant-loop-v l = record {
  parts : length l.parts ≡ length l.fn.parts;
  hints : length l.hints ≡ length l.fn.hints;
  front : AgreesOn l.begin.count l.fn.parts l.parts;
  above : l.from ≤ l.v;
  passed : (c : List ℕ) → IsCompletion (IsNefIn l.table l.r) l.begin.count l.from l.fn.parts c → l.v ≤ part_at c l.begin.count;
}
