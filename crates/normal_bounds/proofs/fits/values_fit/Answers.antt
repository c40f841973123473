use Rattle.normal_bounds.proofs.Numbers.{values_fit_lem}
use Rattle.normal_bounds.proofs.fits.values_fit.Goals as goal

pub returns : goal.returns
returns c = values_fit_lem
