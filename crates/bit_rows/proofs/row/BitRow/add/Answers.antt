use Rattle.bit_rows.proofs.Sets.{added}
use Rattle.bit_rows.proofs.row.BitRow.add.Goals as goal

pub returns : goal.returns
returns c = rw c.self.view_is (added c.args.self.now c.args.index c.requires)
