use Rattle.duality_theory.proofs.DualLists.{points_of_dual_lem}
use Rattle.duality_theory.proofs.duals.points_of_dual.Goals as goal

pub returns : goal.returns
returns c = points_of_dual_lem
