use Rattle.ridge_theory.proofs.OneMore.{facets_of_one_more_lem}
use Rattle.ridge_theory.proofs.facets.facets_of_one_more.Goals as goal

pub returns : goal.returns
returns c = facets_of_one_more_lem
