use Rattle.face_theory.proofs.FaceLists.{rank_exists_lem}
use Rattle.face_theory.proofs.ranks.rank_exists.Goals as goal

pub returns : goal.returns
returns c = rank_exists_lem
