use Rattle.nef_parts.proofs.FirstPartitions.{one_partition_at_lem, fewer_than_all_lem, one_number_lem}
use Rattle.nef_parts.proofs.laws.partitions_are_single.Goals as goal

pub returns-clause-place : goal.returns-clause-place
returns-clause-place c = one_partition_at_lem

pub returns-clause-fewer : goal.returns-clause-fewer
returns-clause-fewer c = fewer_than_all_lem

pub returns-clause-number : goal.returns-clause-number
returns-clause-number c = one_number_lem
