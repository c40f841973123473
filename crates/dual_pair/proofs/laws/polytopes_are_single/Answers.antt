use Rattle.dual_pair.proofs.VertexLists.{polytopes_are_single_lem}
use Rattle.dual_pair.proofs.laws.polytopes_are_single.Goals as goal

pub returns : goal.returns
returns c = polytopes_are_single_lem
