use Rattle.std.proofs.Common.{◌≡◌, take}
use Rattle.point_scan.proofs.eliminations.held.Given as goal

abbrev pub invariant-loop-entry : goal.invariant-loop-entry
invariant-loop-entry l = l.normal.items ≡ take l.entry-index l.entries
