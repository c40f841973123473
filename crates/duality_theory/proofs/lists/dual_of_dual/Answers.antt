use Rattle.duality_theory.proofs.DualLists.{dual_of_dual_lem}
use Rattle.duality_theory.proofs.lists.dual_of_dual.Goals as goal

pub returns : goal.returns
returns c = dual_of_dual_lem
