use Rattle.std.proofs.Common.{◌≡◌, map, take}
use Rattle.lattice_core.specs.Weights.{weighted}
use Rattle.palp_input.specs.Systems.{weighted_of}
use Rattle.palp_input.specs.SystemSteps.{placed_of}
use Rattle.palp_input.proofs.systems.without_places.Given as goal

abbrev pub invariant-loop-system : goal.invariant-loop-system
invariant-loop-system l = map weighted l.items.items ≡ map weighted_of (map placed_of (take l.system-index l.systems))
