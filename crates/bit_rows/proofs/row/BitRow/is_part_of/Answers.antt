use Rattle.std.proofs.Common.{eqb-true, eq-eqb}
use Rattle.bit_rows.proofs.Sets.{part_from_meet, meet_from_part}
use Rattle.bit_rows.proofs.row.BitRow.is_part_of.Goals as goal

pub returns : goal.returns
returns c = rw (c.self.view_is, c.other.view_is) (
  λ h. part_from_meet c.args.self c.args.other (eqb-true _ _ h),
  λ part. eq-eqb _ _ (meet_from_part c.args.self c.args.other part),
)
