use Rattle.batyrev_theory.proofs.InteriorLists.{interior_by_list_lem}
use Rattle.batyrev_theory.proofs.interiors.interior_by_list.Goals as goal

pub returns : goal.returns
returns c = interior_by_list_lem
