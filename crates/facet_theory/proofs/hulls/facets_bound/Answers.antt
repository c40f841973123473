use Rattle.facet_theory.proofs.Hull.{facets_bound_lem}
use Rattle.facet_theory.proofs.hulls.facets_bound.Goals as goal

pub returns : goal.returns
returns c = facets_bound_lem
