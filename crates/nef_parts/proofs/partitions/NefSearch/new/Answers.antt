use Rattle.nef_parts.proofs.Counting.{nothing_given}
use Rattle.nef_parts.proofs.partitions.NefSearch.new.Goals as goal

pub returns-clause-given : goal.returns-clause-given
returns-clause-given c = nothing_given _ c.args.codim c.in_ok-last.last.items
