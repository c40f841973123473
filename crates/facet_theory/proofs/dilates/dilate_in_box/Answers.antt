use Rattle.facet_theory.proofs.DilateBoxes.{dilate_in_box_lem}
use Rattle.facet_theory.proofs.dilates.dilate_in_box.Goals as goal

pub returns : goal.returns
returns c = dilate_in_box_lem
