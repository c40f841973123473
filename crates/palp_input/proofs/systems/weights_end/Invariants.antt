use Rattle.std.proofs.Common.{◌≡◌, drop, slice_range}
use Rattle.palp_input.specs.Systems.{take_weights}
use Rattle.palp_input.proofs.WeightLines.{taken_behind}
use Rattle.palp_input.proofs.systems.weights_end.Given as goal

abbrev pub invariant-loop-place : goal.invariant-loop-place
invariant-loop-place l = take_weights l.degree (drop l.from l.numbers)
    ≡ taken_behind (slice_range l.numbers l.from l.place) (take_weights l.left (drop l.place l.numbers))
