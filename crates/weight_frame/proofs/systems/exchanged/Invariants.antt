use Rattle.std.proofs.Common.{drop, length}
use Rattle.lattice_core.specs.Weights.{weighted}
use Rattle.weight_frame.specs.steps.Reached.{IsReached}
use Rattle.weight_frame.proofs.systems.exchanged.Given as goal

abbrev pub invariant-loop-i : goal.invariant-loop-i
invariant-loop-i l = IsReached (length l.system.weights.items) (weighted l.system) (drop l.i l.us) l.reached.kept.items l.reached.last
    l.reached.divisor
