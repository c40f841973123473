use Rattle.cone_counts.proofs.WithinRows.{CountsWithin}
use Rattle.cone_counts.proofs.free.count_within.Given as goal

abbrev pub invariant-loop-k : goal.invariant-loop-k
invariant-loop-k l = CountsWithin l.set l.rows.rows l.k l.count
