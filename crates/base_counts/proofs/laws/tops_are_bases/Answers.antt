use Rattle.base_counts.proofs.BaseLaws.{tops_are_bases_lem}
use Rattle.base_counts.proofs.laws.tops_are_bases.Goals as goal

pub returns : goal.returns
returns c = tops_are_bases_lem
