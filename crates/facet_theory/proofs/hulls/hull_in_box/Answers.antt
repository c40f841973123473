use Rattle.facet_theory.proofs.Hull.{hull_in_box_lem}
use Rattle.facet_theory.proofs.hulls.hull_in_box.Goals as goal

pub returns : goal.returns
returns c = hull_in_box_lem
