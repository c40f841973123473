use Rattle.batyrev_theory.proofs.TableSums.{products_by_table_lem}
use Rattle.batyrev_theory.proofs.tables.products_by_table.Goals as goal

pub returns : goal.returns
returns c = products_by_table_lem
