use Rattle.normal_bounds.proofs.Products.{combine_products_fit_lem}
use Rattle.normal_bounds.proofs.fits.combine_products_fit.Goals as goal

pub returns : goal.returns
returns c = combine_products_fit_lem
