use Rattle.small_poly.proofs.Lines.{lines_degree, lines_sums}
use Rattle.small_poly.proofs.tests.a_product.Goals as goal

pub mul-p-requires-clause-degree : goal.mul-p-requires-clause-degree
mul-p-requires-clause-degree g c = lines_degree c.first.result c.second.result c.first.ensures.degree c.second.ensures.degree

pub mul-p-requires-clause-small : goal.mul-p-requires-clause-small
mul-p-requires-clause-small g c = lines_sums c.first.result c.second.result c.first.ensures.degree c.first.ensures.size c.second.ensures.size
