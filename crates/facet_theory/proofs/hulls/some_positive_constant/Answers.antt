use Rattle.facet_theory.proofs.Hull.{some_positive_constant_lem}
use Rattle.facet_theory.proofs.hulls.some_positive_constant.Goals as goal

pub returns : goal.returns
returns c = some_positive_constant_lem
