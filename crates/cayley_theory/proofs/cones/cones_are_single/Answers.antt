use Rattle.cayley_theory.proofs.ConeCounts.{cones_are_single_lem}
use Rattle.cayley_theory.proofs.cones.cones_are_single.Goals as goal

pub returns : goal.returns
returns c = cones_are_single_lem
