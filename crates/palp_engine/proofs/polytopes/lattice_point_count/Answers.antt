use Rattle.std.proofs.lemmas.Result.{IfOk-weaker}
use Rattle.lattice_core.specs.Dimensions.{dimension_of}
use Rattle.point_scan.specs.Dilates.{CountsDilatePoints}
use Rattle.palp_engine.specs.RunSteps.{CountsLatticePoints}
use Rattle.palp_engine.proofs.CountedPoints.{scanned_vertices, scanned_facets, all_counted}
use Rattle.palp_engine.proofs.polytopes.lattice_point_count.Goals as goal

pub count_to-requires-clause-vertices : goal.count_to-requires-clause-vertices
count_to-requires-clause-vertices c =
    scanned_vertices (dimension_of c.args.points.now) c.args.points.now c.args.facets.now c.args.vertices.now c.requires

pub count_to-requires-clause-facets : goal.count_to-requires-clause-facets
count_to-requires-clause-facets c =
    scanned_facets (dimension_of c.args.points.now) c.args.points.now c.args.facets.now c.args.vertices.now c.requires

pub returns : goal.returns
returns c =
    let n = dimension_of c.args.points.now in
    let vertices = c.args.vertices.now in
    IfOk-weaker c.count_to.result (CountsDilatePoints (dimension_of vertices) vertices 1 16384)
    (CountsLatticePoints n c.args.points.now 16384) (all_counted n c.args.points.now c.args.facets.now vertices c.requires 16384)
    c.count_to.ensures
