use Rattle.normal_bounds.proofs.Numbers.{step_fits_lem}
use Rattle.normal_bounds.proofs.fits.step_fits.Goals as goal

pub returns : goal.returns
returns c = step_fits_lem
