use Rattle.base_counts.proofs.BaseLaws.{sets_within_tight_lem}
use Rattle.base_counts.proofs.laws.sets_within_tight.Goals as goal

pub returns : goal.returns
returns c = sets_within_tight_lem
