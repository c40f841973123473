use Rattle.duality_theory.proofs.DualLists.{vertices_of_dual_lem}
use Rattle.duality_theory.proofs.duals.vertices_of_dual.Goals as goal

pub returns : goal.returns
returns c = vertices_of_dual_lem
