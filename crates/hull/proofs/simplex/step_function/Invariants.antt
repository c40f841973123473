use Rattle.lattice_theory.specs.Vector.{entry}
use Rattle.hull.specs.steps.Facing.{step_at}
use Rattle.hull.proofs.Made.{IsMadeBelow}
use Rattle.hull.proofs.simplex.step_function.Given as goal

abbrev pub invariant-loop-i : goal.invariant-loop-i
invariant-loop-i l = IsMadeBelow (λ j. step_at l.axis j (entry l.first j)) l.i l.normal.items
