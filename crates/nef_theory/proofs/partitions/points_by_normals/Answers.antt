use Rattle.nef_theory.proofs.ReflexivePoints.{points_by_normals_lem}
use Rattle.nef_theory.proofs.partitions.points_by_normals.Goals as goal

pub returns : goal.returns
returns c = points_by_normals_lem
