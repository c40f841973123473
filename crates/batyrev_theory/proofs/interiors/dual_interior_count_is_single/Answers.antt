use Rattle.batyrev_theory.proofs.InteriorLists.{dual_interior_count_is_single_lem}
use Rattle.batyrev_theory.proofs.interiors.dual_interior_count_is_single.Goals as goal

pub returns : goal.returns
returns c = dual_interior_count_is_single_lem
