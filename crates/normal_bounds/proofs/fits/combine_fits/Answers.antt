use Rattle.normal_bounds.proofs.Numbers.{combine_fits_lem}
use Rattle.normal_bounds.proofs.fits.combine_fits.Goals as goal

pub returns : goal.returns
returns c = combine_fits_lem
