use Rattle.normal_bounds.proofs.Products.{members_fit_lem}
use Rattle.normal_bounds.proofs.fits.members_fit.Goals as goal

pub returns : goal.returns
returns c = members_fit_lem
