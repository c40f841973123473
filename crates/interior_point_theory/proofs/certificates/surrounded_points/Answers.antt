use Rattle.interior_point_theory.proofs.Surrounded.{surrounded_points_lem}
use Rattle.interior_point_theory.proofs.certificates.surrounded_points.Goals as goal

pub returns : goal.returns
returns c = surrounded_points_lem
