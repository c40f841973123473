use Rattle.std.proofs.Common.{◌≡◌, take}
use Rattle.cayley.specs.ConeSteps.{table_of}
use Rattle.cayley.proofs.tight.tight_table.Given as goal

abbrev pub invariant-loop-member : goal.invariant-loop-member
invariant-loop-member l = l.table.items ≡ table_of l.functions (take l.member-index l.members)
