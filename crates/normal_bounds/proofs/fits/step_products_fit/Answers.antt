use Rattle.normal_bounds.proofs.Products.{step_products_fit_lem}
use Rattle.normal_bounds.proofs.fits.step_products_fit.Goals as goal

pub returns : goal.returns
returns c = step_products_fit_lem
