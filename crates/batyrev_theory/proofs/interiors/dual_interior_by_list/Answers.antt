use Rattle.batyrev_theory.proofs.InteriorLists.{dual_interior_by_list_lem}
use Rattle.batyrev_theory.proofs.interiors.dual_interior_by_list.Goals as goal

pub returns : goal.returns
returns c = dual_interior_by_list_lem
