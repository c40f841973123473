use Rattle.std.proofs.Common.{◌≤◌, ◌∙◌, sym, ap, subst, rules}
use Rattle.std.proofs.lemmas.Result.{err_from_is_err_and}
use Rattle.lattice_theory.specs.Size.{size}
use Rattle.duality_theory.specs.Reflexive.{normals_of}
use Rattle.lattice_core.specs.Dimensions.{dimension_of}
use Rattle.lattice_core.specs.Limits.{size_limit_of}
use Rattle.lattice_core.specs.Stops.{Stops}
use Rattle.dual_pair.specs.PairSteps.{IsDualScanRefusal}
use Rattle.dual_pair.proofs.DualSides.{have_dimension, found, found_vertices, found_facets, found_dimension, found_stop}
use Rattle.dual_pair.proofs.pair.dual_of.Goals as goal

pub size_of-size-requires-clause-dimension : goal.size_of-size-requires-clause-dimension
size_of-size-requires-clause-dimension c = have_dimension c.args.p.now c.dim-dim.ensures.polytope c.requires c.dim-dim.result c.deref.result.now
    c.dim-dim.ensures.value (c.deref.ensures.value ∙ c.in_ok-vertices.ensures ∙ ap normals_of c.facets.ensures.value)

pub dual_points-requires-clause-vertices : goal.dual_points-requires-clause-vertices
dual_points-requires-clause-vertices c =
    let small : size c.dim-dim.result c.deref.result.now ≤ size_limit_of c.dim-dim.result = search rules in
    found_vertices c.args.p.now c.dim-dim.ensures.polytope c.requires c.facets.result.now c.vertices.result.now c.in_ok-vertices.vertices.items
    c.in_ok-facets.facets.items c.facets.ensures.value c.vertices.ensures.value c.in_ok-vertices.ensures c.in_ok-facets.ensures c.dim-dim.result
    c.deref-2.result.now c.dim-dim.ensures.value c.deref-2.ensures.value
    (rw (c.deref-2.ensures.value ∙ sym c.deref.ensures.value) small)

pub dual_points-requires-clause-facets : goal.dual_points-requires-clause-facets
dual_points-requires-clause-facets c =
    found_facets c.args.p.now c.dim-dim.ensures.polytope c.requires c.facets.result.now c.vertices.result.now c.in_ok-vertices.vertices.items
    c.in_ok-facets.facets.items c.facets.ensures.value c.vertices.ensures.value c.in_ok-vertices.ensures c.in_ok-facets.ensures
    c.deref-2.result.now c.deref-3.result.now c.deref-2.ensures.value c.deref-3.ensures.value

pub returns-in_err-points-clause-refused : goal.returns-in_err-points-clause-refused
returns-in_err-points-clause-refused c =
    let small : size c.dim-dim.result c.deref.result.now ≤ size_limit_of c.dim-dim.result = search rules in
    let e = err_from_is_err_and c.from_residual-in_err-points.result c.from_residual-in_err-points.ensures.1 in
    rw e.1 (found_stop c.args.p.now c.dim-dim.ensures.polytope c.requires c.facets.result.now c.vertices.result.now
    c.in_ok-vertices.vertices.items c.in_ok-facets.facets.items c.facets.ensures.value c.vertices.ensures.value c.in_ok-vertices.ensures
    c.in_ok-facets.ensures c.dim-dim.result c.deref-2.result.now c.dim-dim.ensures.value c.deref-2.ensures.value
    (rw (c.deref-2.ensures.value ∙ sym c.deref.ensures.value) small) e.0
    (subst (Stops (IsDualScanRefusal (dimension_of c.deref-2.result.now) c.deref-2.result.now)) (sym e.2) c.in_err-points.ensures.refused))

pub invariant_of-result : goal.invariant_of-result
invariant_of-result c =
    let small : size c.dim-dim.result c.deref.result.now ≤ size_limit_of c.dim-dim.result = search rules in
    let dual = found c.args.p.now c.dim-dim.ensures.polytope c.requires c.facets.result.now c.vertices.result.now
    c.in_ok-vertices.vertices.items c.in_ok-facets.facets.items c.facets.ensures.value c.vertices.ensures.value c.in_ok-vertices.ensures
    c.in_ok-facets.ensures c.dim-dim.result c.deref-2.result.now c.in_ok-points.points.items c.dim-dim.ensures.value c.deref-2.ensures.value
    (rw (c.deref-2.ensures.value ∙ sym c.deref.ensures.value) small) c.in_ok-points.ensures.points c.in_ok-points.ensures.few in (
      found_dimension c.args.p.now c.dim-dim.ensures.polytope c.requires c.facets.result.now c.vertices.result.now
          c.in_ok-vertices.vertices.items c.in_ok-facets.facets.items c.facets.ensures.value c.vertices.ensures.value c.in_ok-vertices.ensures
          c.in_ok-facets.ensures c.dim-dim.result c.dim-dim.ensures.value,
      dual.polytope,
    )

pub returns-clause-dual : goal.returns-clause-dual
returns-clause-dual c =
    let small : size c.dim-dim.result c.deref.result.now ≤ size_limit_of c.dim-dim.result = search rules in
    found c.args.p.now c.dim-dim.ensures.polytope c.requires c.facets.result.now c.vertices.result.now c.in_ok-vertices.vertices.items
    c.in_ok-facets.facets.items c.facets.ensures.value c.vertices.ensures.value c.in_ok-vertices.ensures c.in_ok-facets.ensures
    c.dim-dim.result c.deref-2.result.now c.in_ok-points.points.items c.dim-dim.ensures.value c.deref-2.ensures.value
    (rw (c.deref-2.ensures.value ∙ sym c.deref.ensures.value) small) c.in_ok-points.ensures.points c.in_ok-points.ensures.few
