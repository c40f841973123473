use Rattle.std.proofs.Common.{◌≡◌, take}
use Rattle.lattice_core.specs.Weights.{weighted_all}
use Rattle.weight_frame.proofs.frame.copied_systems.Given as goal

abbrev pub invariant-loop-system : goal.invariant-loop-system
invariant-loop-system l = weighted_all l.copies.items ≡ weighted_all (take l.system-index l.systems)
