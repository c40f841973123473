use Rattle.std.proofs.Common.{◌≡◌, map, drop}
use Rattle.palp_input.specs.Systems.{is_zero_column}
use Rattle.palp_input.specs.SystemSteps.{placed_of}
use Rattle.palp_input.proofs.systems.is_zero_column.Given as goal

abbrev pub invariant-loop-system : goal.invariant-loop-system
invariant-loop-system l = is_zero_column l.place (map placed_of l.systems)
    ≡ is_zero_column l.place (map placed_of (drop l.system-index l.systems))
