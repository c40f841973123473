use Rattle.small_poly.proofs.FittingTerms.{terms_fit_lem}
use Rattle.small_poly.proofs.laws.terms_fit.Goals as goal

pub returns : goal.returns
returns c = terms_fit_lem
