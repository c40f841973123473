use Rattle.weight_lists.proofs.Single.{one_list_of_entries_lem, one_cws_step_lem, one_sweep_step_lem}
use Rattle.weight_lists.proofs.laws.lists_are_single.Goals as goal

pub returns-clause-entries : goal.returns-clause-entries
returns-clause-entries c = one_list_of_entries_lem

pub returns-clause-cws : goal.returns-clause-cws
returns-clause-cws c = one_cws_step_lem

pub returns-clause-sweep : goal.returns-clause-sweep
returns-clause-sweep c = one_sweep_step_lem
