use Rattle.batyrev_theory.proofs.TableSums.{deformations_by_table_lem}
use Rattle.batyrev_theory.proofs.tables.deformations_by_table.Goals as goal

pub returns : goal.returns
returns c = deformations_by_table_lem
