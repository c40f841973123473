use Rattle.batyrev_theory.proofs.AllFaces.{face_table_exists_lem}
use Rattle.batyrev_theory.proofs.tables.face_table_exists.Goals as goal

pub returns : goal.returns
returns c = face_table_exists_lem
