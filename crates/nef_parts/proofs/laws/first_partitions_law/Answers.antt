use Rattle.nef_parts.proofs.FirstPartitions.{no_partitions_are_first_lem, first_and_next_lem, first_are_all_lem}
use Rattle.nef_parts.proofs.laws.first_partitions_law.Goals as goal

pub returns-clause-none : goal.returns-clause-none
returns-clause-none c = no_partitions_are_first_lem

pub returns-clause-next : goal.returns-clause-next
returns-clause-next c = first_and_next_lem

pub returns-clause-all : goal.returns-clause-all
returns-clause-all c = first_are_all_lem
