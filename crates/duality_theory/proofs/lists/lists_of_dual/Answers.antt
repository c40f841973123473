use Rattle.duality_theory.proofs.DualLists.{lists_of_dual_lem}
use Rattle.duality_theory.proofs.lists.lists_of_dual.Goals as goal

pub returns : goal.returns
returns c = lists_of_dual_lem
