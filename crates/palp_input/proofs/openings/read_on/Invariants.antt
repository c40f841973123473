use Rattle.palp_input.specs.OpeningSteps.{MatrixSoFar}
use Rattle.palp_input.proofs.openings.read_on.Given as goal

abbrev pub invariant-loop-pending : goal.invariant-loop-pending
invariant-loop-pending l = MatrixSoFar l.text l.pending

abbrev pub decreases-loop-pending : goal.decreases-loop-pending
decreases-loop-pending l = l.pending.left
