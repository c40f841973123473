use Rattle.stringy_theory.proofs.RankedTables.{ranked_table_suffices_lem}
use Rattle.stringy_theory.proofs.ranks.ranked_table_suffices.Goals as goal

pub returns : goal.returns
returns c = ranked_table_suffices_lem
