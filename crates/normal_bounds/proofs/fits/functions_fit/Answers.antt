use Rattle.normal_bounds.proofs.Products.{functions_fit_lem}
use Rattle.normal_bounds.proofs.fits.functions_fit.Goals as goal

pub returns : goal.returns
returns c = functions_fit_lem
