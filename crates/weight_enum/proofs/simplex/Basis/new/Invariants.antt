use Rattle.std.proofs.Common.{◌≡◌, length}
use Rattle.weight_enum.proofs.simplex.Basis.new.Given as goal

abbrev pub invariant-loop-j : goal.invariant-loop-j
invariant-loop-j l = length l.rows.items ≡ l.j
