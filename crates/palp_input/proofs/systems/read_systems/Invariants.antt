use Rattle.std.proofs.Common.{◌-◌, length}
use Rattle.palp_input.proofs.WeightLines.{SystemsSoFar}
use Rattle.palp_input.proofs.systems.read_systems.Given as goal

abbrev pub invariant-loop-place : goal.invariant-loop-place
invariant-loop-place l = SystemsSoFar l.numbers l.place l.systems.items

abbrev pub decreases-loop-place : goal.decreases-loop-place
decreases-loop-place l = length l.numbers - l.place
