use Rattle.ridge_theory.proofs.OneMore.{facets_stay_lem}
use Rattle.ridge_theory.proofs.facets.facets_stay.Goals as goal

pub returns : goal.returns
returns c = facets_stay_lem
