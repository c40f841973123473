use Rattle.ridge_theory.proofs.OneMore.{ridges_give_facets_lem}
use Rattle.ridge_theory.proofs.ridges.ridges_give_facets.Goals as goal

pub returns : goal.returns
returns c = ridges_give_facets_lem
