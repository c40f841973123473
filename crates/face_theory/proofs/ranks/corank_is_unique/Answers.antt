use Rattle.face_theory.proofs.Heights.{corank_is_unique_lem}
use Rattle.face_theory.proofs.ranks.corank_is_unique.Goals as goal

pub returns : goal.returns
returns c = corank_is_unique_lem
