use Rattle.std.proofs.Common.{List, ℤ, sym, subst}
use Rattle.std.proofs.lemmas.Result.{err_from_is_err_and}
use Rattle.lattice_theory.specs.Affine.{Affine}
use Rattle.lattice_theory.specs.Facet.{AreFacetsInAnyOrder}
use Rattle.lattice_core.specs.PointLists.{AreSolidPoints}
use Rattle.lattice_core.specs.Dimensions.{dimension_of}
use Rattle.lattice_core.specs.Stops.{Stops}
use Rattle.point_scan.specs.Faults.{IsScanRefusal}
use Rattle.dual_pair.proofs.PolytopeStops.{have_hull, scanned_vertices, scanned_facets, scan_refused, from_scan, held}
use Rattle.dual_pair.proofs.polytope.Polytope.of.Goals as goal

pub scan-requires-clause-vertices : goal.scan-requires-clause-vertices
scan-requires-clause-vertices c =
    let facets = c.in_ok-facets.field-0.facets.items in
    let vertices = c.in_ok-facets.field-0.vertices.items in
    let found = have_hull c.args.points.now facets vertices c.dimension-dim.result c.dimension-dim.ensures.value c.dimension-dim.ensures.least
    c.dimension-dim.ensures.most c.in_ok-facets.ensures.solid c.in_ok-facets.ensures.facets c.in_ok-facets.ensures.vertices
    c.in_ok-facets.ensures.few_facets c.in_ok-facets.ensures.few_vertices in
    subst AreSolidPoints (sym c.deref.ensures.value) (scanned_vertices c.args.points.now facets vertices found)

pub scan-requires-clause-facets : goal.scan-requires-clause-facets
scan-requires-clause-facets c =
    let facets = c.in_ok-facets.field-0.facets.items in
    let vertices = c.in_ok-facets.field-0.vertices.items in
    let found = have_hull c.args.points.now facets vertices c.dimension-dim.result c.dimension-dim.ensures.value c.dimension-dim.ensures.least
    c.dimension-dim.ensures.most c.in_ok-facets.ensures.solid c.in_ok-facets.ensures.facets c.in_ok-facets.ensures.vertices
    c.in_ok-facets.ensures.few_facets c.in_ok-facets.ensures.few_vertices in
    subst (λ (fs : List Affine). AreFacetsInAnyOrder (dimension_of c.deref.result.now) c.deref.result.now fs) (sym c.deref-2.ensures.value)
    (subst (λ (vs : List (List ℤ)). AreFacetsInAnyOrder (dimension_of vs) vs facets) (sym c.deref.ensures.value)
    (scanned_facets c.args.points.now facets vertices found))

pub returns-in_err-points-clause-refused : goal.returns-in_err-points-clause-refused
returns-in_err-points-clause-refused c =
    let facets = c.in_ok-facets.field-0.facets.items in
    let vertices = c.in_ok-facets.field-0.vertices.items in
    let found = have_hull c.args.points.now facets vertices c.dimension-dim.result c.dimension-dim.ensures.value c.dimension-dim.ensures.least
    c.dimension-dim.ensures.most c.in_ok-facets.ensures.solid c.in_ok-facets.ensures.facets c.in_ok-facets.ensures.vertices
    c.in_ok-facets.ensures.few_facets c.in_ok-facets.ensures.few_vertices in
    let e = err_from_is_err_and c.from_residual-in_err-points.result c.from_residual-in_err-points.ensures.1 in
    rw e.1 (scan_refused c.args.points.now facets vertices found c.deref.result.now c.deref.ensures.value e.0
    (subst (Stops (IsScanRefusal (dimension_of c.deref.result.now) c.deref.result.now)) (sym e.2) c.in_err-points.ensures.refused))

pub invariant_of-result : goal.invariant_of-result
invariant_of-result c =
    let facets = c.in_ok-facets.field-0.facets.items in
    let vertices = c.in_ok-facets.field-0.vertices.items in
    let found = have_hull c.args.points.now facets vertices c.dimension-dim.result c.dimension-dim.ensures.value c.dimension-dim.ensures.least
    c.dimension-dim.ensures.most c.in_ok-facets.ensures.solid c.in_ok-facets.ensures.facets c.in_ok-facets.ensures.vertices
    c.in_ok-facets.ensures.few_facets c.in_ok-facets.ensures.few_vertices in
    held c.args.points.now facets vertices found c.dimension-dim.result c.dimension-dim.ensures.value c.in_ok-points.points.items
    (from_scan c.args.points.now facets vertices found c.deref.result.now c.deref.ensures.value c.in_ok-points.points.items
    c.in_ok-points.ensures.points c.in_ok-points.ensures.few)

pub returns-clause-polytope : goal.returns-clause-polytope
returns-clause-polytope c =
    let facets = c.in_ok-facets.field-0.facets.items in
    let vertices = c.in_ok-facets.field-0.vertices.items in
    let found = have_hull c.args.points.now facets vertices c.dimension-dim.result c.dimension-dim.ensures.value c.dimension-dim.ensures.least
    c.dimension-dim.ensures.most c.in_ok-facets.ensures.solid c.in_ok-facets.ensures.facets c.in_ok-facets.ensures.vertices
    c.in_ok-facets.ensures.few_facets c.in_ok-facets.ensures.few_vertices in
    from_scan c.args.points.now facets vertices found c.deref.result.now c.deref.ensures.value c.in_ok-points.points.items
    c.in_ok-points.ensures.points c.in_ok-points.ensures.few
