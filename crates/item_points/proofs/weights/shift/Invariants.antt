use Rattle.std.proofs.Common.{◌≡◌, ◌++◌, take, drop, map, pos, ◌-ℤ◌}
use Rattle.item_points.proofs.weights.shift.Given as goal

abbrev pub invariant-loop-entry : goal.invariant-loop-entry
invariant-loop-entry l = l.entry-items ≡ map (λ e. e -ℤ pos 1) (take l.entry-index l.initial.entry-items)
    ++ drop l.entry-index l.initial.entry-items
