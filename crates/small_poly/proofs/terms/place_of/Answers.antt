use Rattle.std.proofs.Common.{arith, ◌+◌, ◌-◌, ◌/◌}
use Rattle.small_poly.proofs.terms.place_of.Goals as goal

pub returns : goal.returns
returns c = (c.args.q - (c.args.r + c.args.q - c.args.p) / 2, omega arith, omega arith)
