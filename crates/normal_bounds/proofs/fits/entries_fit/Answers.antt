use Rattle.normal_bounds.proofs.Numbers.{entries_fit_lem}
use Rattle.normal_bounds.proofs.fits.entries_fit.Goals as goal

pub returns : goal.returns
returns c = entries_fit_lem
