use Rattle.normal_bounds.proofs.Normals.{normal_bound_lem}
use Rattle.normal_bounds.proofs.bounds.normal_bound.Goals as goal

pub returns : goal.returns
returns c = normal_bound_lem
