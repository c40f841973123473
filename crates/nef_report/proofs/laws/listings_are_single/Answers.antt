use Rattle.nef_report.proofs.SingleSteps.{one_listing_step}
use Rattle.nef_report.proofs.laws.listings_are_single.Goals as goal

pub returns : goal.returns
returns c = one_listing_step
