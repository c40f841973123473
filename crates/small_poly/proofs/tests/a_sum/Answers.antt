use Rattle.small_poly.proofs.Lines.{lines_add}
use Rattle.small_poly.proofs.tests.a_sum.Goals as goal

pub add-requires : goal.add-requires
add-requires g c = lines_add c.first-p.result c.second.result c.first-p.ensures.size c.second.ensures.size
