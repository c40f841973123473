use Rattle.poset_g.proofs.Powers.{powers_at}
use Rattle.poset_g.proofs.sums.power_of.Goals as goal

pub returns-clause-value : goal.returns-clause-value
returns-clause-value c = (powers_at c.args.n c.args.a c.requires.power c.requires.degree).0

pub returns-clause-size : goal.returns-clause-size
returns-clause-size c = (powers_at c.args.n c.args.a c.requires.power c.requires.degree).1
