use Rattle.lattice_core.specs.Dimensions.{dimension_of}
use Rattle.point_scan.proofs.BoundSteps.{bounds_more}
use Rattle.point_scan.proofs.projections.push_projected.Goals as goal

pub returns-clause-bounds : goal.returns-clause-bounds
returns-clause-bounds c =
    let points = c.args.vertices.now in
    bounds_more (dimension_of points) points c.args.bounds.now.items c.push.new.self.items c.in-Some.bound c.in_ok-push.ensures.items
    c.requires.bounds c.in-Some.ensures
