use Rattle.normal_bounds.proofs.KernelMembers.{member_bound_lem}
use Rattle.normal_bounds.proofs.bounds.member_bound.Goals as goal

pub returns : goal.returns
returns c = member_bound_lem
