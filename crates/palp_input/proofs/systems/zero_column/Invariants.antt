use Rattle.std.proofs.Common.{◌≡◌, map, drop}
use Rattle.palp_input.specs.Systems.{zero_column}
use Rattle.palp_input.specs.SystemSteps.{placed_of}
use Rattle.palp_input.proofs.systems.zero_column.Given as goal

abbrev pub invariant-loop-place : goal.invariant-loop-place
invariant-loop-place l = zero_column 0 l.first (map placed_of l.systems) ≡ zero_column l.place (drop l.place l.first)
    (map placed_of l.systems)
