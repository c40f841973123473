use Rattle.ridge_theory.proofs.Pairs.{opposite_facets_combine_lem}
use Rattle.ridge_theory.proofs.ridges.opposite_facets_combine.Goals as goal

pub returns : goal.returns
returns c = opposite_facets_combine_lem
