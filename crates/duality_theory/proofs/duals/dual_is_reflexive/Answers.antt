use Rattle.duality_theory.proofs.DualLists.{dual_is_reflexive_lem}
use Rattle.duality_theory.proofs.duals.dual_is_reflexive.Goals as goal

pub returns : goal.returns
returns c = dual_is_reflexive_lem
