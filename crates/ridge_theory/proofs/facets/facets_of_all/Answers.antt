use Rattle.ridge_theory.proofs.NewFacets.{facets_of_all_lem}
use Rattle.ridge_theory.proofs.facets.facets_of_all.Goals as goal

pub returns : goal.returns
returns c = facets_of_all_lem
