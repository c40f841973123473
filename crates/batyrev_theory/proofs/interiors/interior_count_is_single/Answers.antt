use Rattle.batyrev_theory.proofs.InteriorLists.{interior_count_is_single_lem}
use Rattle.batyrev_theory.proofs.interiors.interior_count_is_single.Goals as goal

pub returns : goal.returns
returns c = interior_count_is_single_lem
