use Rattle.face_theory.proofs.Climbs.{rank_bound_lem}
use Rattle.face_theory.proofs.bounds.rank_bound.Goals as goal

pub returns : goal.returns
returns c = rank_bound_lem
