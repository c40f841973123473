use Rattle.cayley.proofs.DualSide.{dual_pairs_counted_lem, dual_faces_counted_lem}
use Rattle.cayley.proofs.laws.dual_faces_are_counted.Goals as goal

pub returns-clause-pairs : goal.returns-clause-pairs
returns-clause-pairs c = dual_pairs_counted_lem

pub returns-clause-faces : goal.returns-clause-faces
returns-clause-faces c = dual_faces_counted_lem
