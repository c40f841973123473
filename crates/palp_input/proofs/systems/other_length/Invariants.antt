use Rattle.std.proofs.Common.{◌≡◌, map, drop}
use Rattle.palp_input.specs.Systems.{other_length}
use Rattle.palp_input.specs.SystemSteps.{placed_of}
use Rattle.palp_input.proofs.systems.other_length.Given as goal

abbrev pub invariant-loop-system : goal.invariant-loop-system
invariant-loop-system l = other_length l.count (map placed_of l.systems)
    ≡ other_length l.count (map placed_of (drop l.system-index l.systems))
