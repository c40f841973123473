use Rattle.std.proofs.Common.{neg_ℤ}
use Rattle.lattice_theory.specs.Vector.{entry}
use Rattle.hull.specs.steps.Facing.{unit_step}
use Rattle.hull.proofs.Made.{IsMadeBelow}
use Rattle.hull.proofs.simplex.top_function.Given as goal

abbrev pub invariant-loop-i : goal.invariant-loop-i
invariant-loop-i l = IsMadeBelow (λ j. neg_ℤ (unit_step (entry l.first j))) l.i l.normal.items
