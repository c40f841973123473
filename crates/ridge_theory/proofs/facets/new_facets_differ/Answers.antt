use Rattle.ridge_theory.proofs.NewFacets.{new_facets_differ_lem}
use Rattle.ridge_theory.proofs.facets.new_facets_differ.Goals as goal

pub returns : goal.returns
returns c = new_facets_differ_lem
