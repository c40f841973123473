use Rattle.point_scan.proofs.BoundSteps.{vertices_small}
use Rattle.point_scan.proofs.projections.projected.Goals as goal

pub bound_at-requires-clause-small : goal.bound_at-requires-clause-small
bound_at-requires-clause-small c = vertices_small c.args.vertices.now c.requires.vertices
