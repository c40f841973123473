use Rattle.bit_rows.proofs.Sets.{met}
use Rattle.bit_rows.proofs.row.BitRow.meet.Goals as goal

pub returns : goal.returns
returns c = rw (c.self.view_is, c.other.view_is) (met c.args.self c.args.other)
