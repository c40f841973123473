use Rattle.std.proofs.Common.{◌≡◌, ◌++◌, take, drop, map}
use Rattle.weight_points.specs.steps.Rows.{returning}
use Rattle.weight_points.proofs.rows.give_back.Given as goal

abbrev pub invariant-loop-row : goal.invariant-loop-row
invariant-loop-row l = l.rows ≡ map (returning l.place l.value) (take l.row-index l.initial.rows) ++ drop l.row-index l.initial.rows
