use Rattle.palp_engine.proofs.WayBack.{way_back}
use Rattle.palp_engine.proofs.laws.dual_leads_back.Goals as goal

pub returns : goal.returns
returns c = way_back
