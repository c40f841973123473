use Rattle.duality_theory.proofs.DualLists.{point_list_of_dual_lem}
use Rattle.duality_theory.proofs.lists.point_list_of_dual.Goals as goal

pub returns : goal.returns
returns c = point_list_of_dual_lem
