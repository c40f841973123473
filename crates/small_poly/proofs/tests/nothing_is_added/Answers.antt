use Rattle.small_poly.proofs.Lines.{nothing_added}
use Rattle.small_poly.proofs.tests.nothing_is_added.Goals as goal

pub add-requires : goal.add-requires
add-requires g c = nothing_added c.zero-p.result c.zero.result c.zero-p.ensures c.zero.ensures
