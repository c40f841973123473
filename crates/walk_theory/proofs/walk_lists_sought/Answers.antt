use Rattle.walk_theory.proofs.Walks.{walk_lists_sought_lem}
use Rattle.walk_theory.proofs.walk_lists_sought.Goals as goal

pub returns : goal.returns
returns c = walk_lists_sought_lem
