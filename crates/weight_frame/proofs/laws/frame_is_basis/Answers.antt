use Rattle.weight_frame.proofs.Frames.{frame_is_basis}
use Rattle.weight_frame.proofs.laws.frame_is_basis.Goals as goal

pub returns : goal.returns
returns c = frame_is_basis
