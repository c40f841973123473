use Rattle.duality_theory.proofs.DualLists.{facets_of_dual_lem}
use Rattle.duality_theory.proofs.duals.facets_of_dual.Goals as goal

pub returns : goal.returns
returns c = facets_of_dual_lem
