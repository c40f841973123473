use Rattle.face_theory.proofs.Climbs.{chain_bound_lem}
use Rattle.face_theory.proofs.bounds.chain_bound.Goals as goal

pub returns : goal.returns
returns c = chain_bound_lem
