use Rattle.facet_theory.proofs.Different.{facets_differ_lem}
use Rattle.facet_theory.proofs.facets.facets_differ.Goals as goal

pub returns : goal.returns
returns c = facets_differ_lem
