use Rattle.facet_theory.proofs.DilateBoxes.{first_dilate_is_hull_lem}
use Rattle.facet_theory.proofs.dilates.first_dilate_is_hull.Goals as goal

pub returns : goal.returns
returns c = first_dilate_is_hull_lem
