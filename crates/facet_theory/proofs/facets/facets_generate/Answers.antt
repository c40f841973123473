use Rattle.facet_theory.proofs.Generate.{facets_generate_lem}
use Rattle.facet_theory.proofs.facets.facets_generate.Goals as goal

pub returns : goal.returns
returns c = facets_generate_lem
