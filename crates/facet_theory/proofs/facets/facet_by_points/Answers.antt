use Rattle.facet_theory.proofs.FacetPoints.{facet_by_points_lem}
use Rattle.facet_theory.proofs.facets.facet_by_points.Goals as goal

pub returns : goal.returns
returns c = facet_by_points_lem
