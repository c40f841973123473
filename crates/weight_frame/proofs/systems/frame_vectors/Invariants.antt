use Rattle.std.proofs.Common.{take}
use Rattle.lattice_core.specs.Weights.{weighted_all, columns_of}
use Rattle.weight_frame.specs.steps.Reached.{AreReached}
use Rattle.weight_frame.proofs.systems.frame_vectors.Given as goal

abbrev pub invariant-loop-system : goal.invariant-loop-system
invariant-loop-system l = AreReached (columns_of (weighted_all l.systems)) (weighted_all (take l.system-index l.systems)) l.vectors.items
