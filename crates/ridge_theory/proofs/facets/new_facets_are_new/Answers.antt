use Rattle.ridge_theory.proofs.NewFacets.{new_facets_are_new_lem}
use Rattle.ridge_theory.proofs.facets.new_facets_are_new.Goals as goal

pub returns : goal.returns
returns c = new_facets_are_new_lem
