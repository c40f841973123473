use Rattle.lattice_core.specs.Weights.{weighted}
use Rattle.weight_lists.proofs.SystemPolytopes.{chosen}
use Rattle.weight_lists.proofs.listing.is_listed.Goals as goal

pub returns : goal.returns
returns c = chosen c.args.only (weighted c.args.system.now) c.in_ok-polytope.polytope c.is_reflexive.result c.if-not-only.false
    c.in_ok-polytope.ensures c.is_reflexive.ensures
