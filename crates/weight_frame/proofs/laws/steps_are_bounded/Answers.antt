use Rattle.weight_frame.proofs.StepBounds.{steps_are_bounded}
use Rattle.weight_frame.proofs.laws.steps_are_bounded.Goals as goal

pub returns : goal.returns
returns c = steps_are_bounded
