use Rattle.face_theory.proofs.FaceLists.{corank_exists_lem}
use Rattle.face_theory.proofs.ranks.corank_exists.Goals as goal

pub returns : goal.returns
returns c = corank_exists_lem
