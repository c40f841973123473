use Rattle.cayley.proofs.FoundPartitions.{found_are_partitions_lem}
use Rattle.cayley.proofs.laws.found_are_partitions.Goals as goal

pub returns : goal.returns
returns c = found_are_partitions_lem
