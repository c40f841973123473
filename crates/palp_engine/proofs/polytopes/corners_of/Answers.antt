use Rattle.std.proofs.Common.{sym, subst}
use Rattle.std.proofs.lemmas.Result.{err_from_is_err_and}
use Rattle.lattice_core.specs.Dimensions.{dimension_of}
use Rattle.lattice_core.specs.Stops.{Stops}
use Rattle.hull.specs.Faults.{IsPolytopeRefusal}
use Rattle.palp_engine.proofs.HullStops.{polytope_stop}
use Rattle.palp_engine.proofs.CountedPoints.{item_solid}
use Rattle.palp_engine.proofs.polytopes.corners_of.Goals as goal

pub returns-in_err-hull : goal.returns-in_err-hull
returns-in_err-hull c =
    let n = dimension_of c.args.points.now in
    let e = err_from_is_err_and c.from_residual.result c.from_residual.ensures.1 in
    let refused = subst (Stops (IsPolytopeRefusal n c.args.points.now)) (sym e.2) c.in_err-hull.ensures.refused in
    rw e.1 (polytope_stop n c.args.points.now e.0 c.requires.sized.within refused)

pub returns : goal.returns
returns c = record {
  solid = item_solid c.args.points.now c.requires c.in_ok-hull.ensures.solid.solid;
  sized = c.requires.sized.within;
  are_facets = c.in_ok-hull.ensures.facets;
  few_facets = c.in_ok-hull.ensures.few_facets;
  are_vertices = c.in_ok-hull.ensures.vertices;
  few_vertices = c.in_ok-hull.ensures.few_vertices;
}
