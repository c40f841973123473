use Rattle.face_theory.proofs.Heights.{table_has_coranks_lem}
use Rattle.face_theory.proofs.ranks.table_has_coranks.Goals as goal

pub returns : goal.returns
returns c = table_has_coranks_lem
