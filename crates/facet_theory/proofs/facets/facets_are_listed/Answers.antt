use Rattle.facet_theory.proofs.Listed.{facets_are_listed_lem}
use Rattle.facet_theory.proofs.facets.facets_are_listed.Goals as goal

pub returns : goal.returns
returns c = facets_are_listed_lem
