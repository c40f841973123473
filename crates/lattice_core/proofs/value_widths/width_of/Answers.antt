use Rattle.std.proofs.Common.{◌<◌, ◌^◌, subst}
use Rattle.lattice_core.proofs.ValueSizes.{narrow_serves, wide_serves, power_fits}
use Rattle.lattice_core.proofs.value_widths.width_of.Goals as goal

pub pow-requires : goal.pow-requires
pow-requires c = power_fits c.args.n c.args.size c.requires.within

pub returns-then-pow-clause-serves : goal.returns-then-pow-clause-serves
returns-then-pow-clause-serves c =
    narrow_serves c.args.n c.args.size c.requires.least (subst (λ power. power < 2 ^ 63) c.pow.ensures (c.if-pow.true))

pub returns-else-pow-clause-serves : goal.returns-else-pow-clause-serves
returns-else-pow-clause-serves c = wide_serves c.args.n c.args.size c.requires.least c.requires.most c.requires.within
