use Rattle.facet_theory.proofs.Hull.{hull_by_facets_lem}
use Rattle.facet_theory.proofs.hulls.hull_by_facets.Goals as goal

pub returns : goal.returns
returns c = hull_by_facets_lem
