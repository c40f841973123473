use Rattle.weight_frame.proofs.Frames.{not_exceeding, not_other_dimension}
use Rattle.weight_frame.proofs.laws.frame_is_refused_for_nothing.Goals as goal

pub returns : goal.returns
returns c = record { entries = not_exceeding; dimension = not_other_dimension }
