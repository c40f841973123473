use Rattle.std.proofs.Common.{◌≡◌, ◌++◌, take}
use Rattle.cayley.specs.ConeSteps.{row_of}
use Rattle.cayley.proofs.tight.push_row.Given as goal

abbrev pub invariant-loop-function : goal.invariant-loop-function
invariant-loop-function l = l.table.items ≡ l.fn.table.items ++ row_of (take l.function-index l.functions) l.member
