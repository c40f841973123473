use Rattle.lattice_core.specs.Weights.{weighted_all}
use Rattle.weight_points.proofs.Walks.{begins}
use Rattle.weight_points.proofs.monomials.Monomials.new.Goals as goal

pub invariant_of-result : goal.invariant_of-result
invariant_of-result c = (begins (weighted_all c.args.systems.now) c.in_ok-rows.rows.items c.in_ok-entries.entries.items c.requires.formed
    c.requires.limits c.in_ok-rows.ensures.systems c.in_ok-rows.ensures.fresh c.in_ok-entries.ensures).ready

pub returns-clause-given : goal.returns-clause-given
returns-clause-given c = (begins (weighted_all c.args.systems.now) c.in_ok-rows.rows.items c.in_ok-entries.entries.items c.requires.formed
    c.requires.limits c.in_ok-rows.ensures.systems c.in_ok-rows.ensures.fresh c.in_ok-entries.ensures).given
