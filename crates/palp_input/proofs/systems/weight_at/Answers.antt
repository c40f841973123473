use Rattle.palp_input.proofs.WeightLines.{weight_at-within, weight_at-past}
use Rattle.palp_input.proofs.systems.weight_at.Goals as goal

pub returns-then-place-weights : goal.returns-then-place-weights
returns-then-place-weights c = weight_at-within c.args.place c.args.weights.now (record { at = 0; value = 0 }) c.if-place-weights.true

pub returns-else-place-weights : goal.returns-else-place-weights
returns-else-place-weights c = weight_at-past c.args.place c.args.weights.now c.if-place-weights.false
