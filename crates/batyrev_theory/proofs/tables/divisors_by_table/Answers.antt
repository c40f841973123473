use Rattle.batyrev_theory.proofs.TableSums.{divisors_by_table_lem}
use Rattle.batyrev_theory.proofs.tables.divisors_by_table.Goals as goal

pub returns : goal.returns
returns c = divisors_by_table_lem
