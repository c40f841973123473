use Rattle.weight_frame.proofs.Frames.{frame_exists}
use Rattle.weight_frame.proofs.laws.frame_exists.Goals as goal

pub returns : goal.returns
returns c = frame_exists
