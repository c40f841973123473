use Rattle.face_theory.proofs.Heights.{table_has_ranks_lem}
use Rattle.face_theory.proofs.ranks.table_has_ranks.Goals as goal

pub returns : goal.returns
returns c = table_has_ranks_lem
