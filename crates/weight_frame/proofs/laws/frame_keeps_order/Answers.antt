use Rattle.weight_frame.proofs.FrameOrder.{frame_keeps_order}
use Rattle.weight_frame.proofs.laws.frame_keeps_order.Goals as goal

pub returns : goal.returns
returns c = frame_keeps_order
