use Rattle.std.proofs.Common.{take}
use Rattle.hull.specs.steps.Growing.{IsOuter}
use Rattle.hull.proofs.outer.outer_points.Given as goal

abbrev pub invariant-loop-p : goal.invariant-loop-p
invariant-loop-p l = IsOuter l.corners l.functions (take l.p-index l.points) l.outer.items
