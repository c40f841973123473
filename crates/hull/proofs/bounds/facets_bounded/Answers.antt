use Rattle.hull.proofs.FacetBounds.{facets_bounded_lem}
use Rattle.hull.proofs.bounds.facets_bounded.Goals as goal

pub returns : goal.returns
returns c = facets_bounded_lem
