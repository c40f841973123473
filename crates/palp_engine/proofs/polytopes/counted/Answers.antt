use Rattle.std.proofs.Common.{arith, refl}
use Rattle.lattice_core.specs.Dimensions.{dimension_of}
use Rattle.palp_engine.specs.Reports.{many_points}
use Rattle.palp_engine.proofs.CountedPoints.{many_counted, few_counted}
use Rattle.palp_engine.proofs.polytopes.counted.Goals as goal

pub returns-then-count-most : goal.returns-then-count-most
returns-then-count-most c =
    many_points (many_counted (dimension_of c.args.points.now) c.args.points.now c.args.facets.now c.args.vertices.now c.requires
    c.in_ok-count.count c.in_ok-count.ensures c.from.result c.if-count-most.true c.from.ensures)

pub returns : goal.returns
returns c =
    few_counted (dimension_of c.args.points.now) c.args.points.now c.args.facets.now c.args.vertices.now c.requires c.in_ok-count.count
    c.in_ok-count.ensures _ (omega (arith, c.if-count-most.false)) refl
