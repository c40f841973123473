use Rattle.std.specs.Prelude.{◌≡◌, length}
use Rattle.std.proofs.Common.{rules, refl, sym, subst}
use Rattle.std.proofs.lemmas.Result.{err_from_is_err_and}
use Rattle.lattice_core.specs.Dimensions.{dimension_of}
use Rattle.lattice_core.specs.Stops.{Stops}
use Rattle.point_scan.specs.Faults.{IsScanRefusal}
use Rattle.palp_engine.proofs.CountedPoints.{scanned_vertices, scanned_facets, all_scanned, many_scanned}
use Rattle.palp_engine.proofs.polytopes.scanned.Goals as goal

pub scan-requires-clause-vertices : goal.scan-requires-clause-vertices
scan-requires-clause-vertices c =
    scanned_vertices (dimension_of c.args.points.now) c.args.points.now c.args.facets.now c.args.vertices.now c.requires

pub scan-requires-clause-facets : goal.scan-requires-clause-facets
scan-requires-clause-facets c =
    scanned_facets (dimension_of c.args.points.now) c.args.points.now c.args.facets.now c.args.vertices.now c.requires

pub returns-in_err-lattice : goal.returns-in_err-lattice
returns-in_err-lattice c =
    let vertices = c.args.vertices.now in
    let e = err_from_is_err_and c.from_residual.result c.from_residual.ensures.1 in
    let refused = subst (Stops (IsScanRefusal (dimension_of vertices) vertices)) (sym e.2) c.in_err-lattice.ensures.refused in
    rw e.1 (many_scanned (dimension_of c.args.points.now) c.args.points.now c.args.facets.now vertices c.requires e.0 refused)

pub returns : goal.returns
returns c =
    let lattice = c.in_ok-lattice.lattice.items in
    let count : c.len.result ≡ length lattice = search rules in
    record {
      list = lattice;
      are_lattice_points = all_scanned (dimension_of c.args.points.now) c.args.points.now c.args.facets.now c.args.vertices.now c.requires
          lattice c.in_ok-lattice.ensures.points;
      few = c.in_ok-lattice.ensures.few;
      count_is = count;
      listed_is = λ t. refl;
    }
