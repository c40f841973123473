use Rattle.ridge_theory.proofs.ThirdFacets.{ridges_by_facets_lem}
use Rattle.ridge_theory.proofs.ridges.ridges_by_facets.Goals as goal

pub returns : goal.returns
returns c = ridges_by_facets_lem
