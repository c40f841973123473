use Rattle.std.proofs.Common.{take}
use Rattle.hull.specs.steps.Kernels.{IsStepped}
use Rattle.hull.proofs.kernel.stepped.Given as goal

abbrev pub invariant-loop-member : goal.invariant-loop-member
invariant-loop-member l = IsStepped (take l.place l.kernel) l.pivot (take l.member-index l.member-items) l.v l.members.items
