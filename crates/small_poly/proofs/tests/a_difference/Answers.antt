use Rattle.small_poly.proofs.Lines.{lines_subtract}
use Rattle.small_poly.proofs.tests.a_difference.Goals as goal

pub sub-requires : goal.sub-requires
sub-requires g c = lines_subtract c.first-p.result c.second.result c.first-p.ensures.size c.second.ensures.size
