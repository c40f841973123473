use Rattle.cayley.proofs.PolytopeSide.{functions_all_parts_lem}
use Rattle.cayley.proofs.DualSide.{members_all_parts_lem}
use Rattle.cayley.proofs.laws.parts_have_vectors.Goals as goal

pub returns-clause-functions : goal.returns-clause-functions
returns-clause-functions c = functions_all_parts_lem

pub returns-clause-members : goal.returns-clause-members
returns-clause-members c = members_all_parts_lem
