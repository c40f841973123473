use Rattle.std.proofs.Common.{◌-◌}
use Rattle.stringy.proofs.Signs.{parity}
use Rattle.stringy.proofs.tilde.is_odd.Goals as goal

pub returns : goal.returns
returns c = parity (c.args.high - c.args.low)
