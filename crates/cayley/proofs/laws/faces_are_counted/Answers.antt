use Rattle.cayley.proofs.PolytopeSide.{pairs_counted_lem, faces_counted_lem}
use Rattle.cayley.proofs.laws.faces_are_counted.Goals as goal

pub returns-clause-pairs : goal.returns-clause-pairs
returns-clause-pairs c = pairs_counted_lem

pub returns-clause-faces : goal.returns-clause-faces
returns-clause-faces c = faces_counted_lem
