use Rattle.std.proofs.Common.{◌≡◌, ◌≤◌, List, length, ℤ, rules, arith, sym, ap, ◌∙◌, subst}
use Rattle.lattice_core.specs.Dimensions.{dimension_of}
use Rattle.dual_pair.proofs.PolytopeStops.{HaveHull, have_hull, made, held}
use Rattle.dual_pair.proofs.polytope.Polytope.of_lattice_points.Goals as goal

pub invariant_of-result : goal.invariant_of-result
invariant_of-result c =
    let points = c.args.points.items in
    let facets = c.in_ok-facets.field-0.facets.items in
    let vertices = c.in_ok-facets.field-0.vertices.items in
    let is : c.dimension-dim.result ≡ dimension_of points = c.dimension-dim.ensures.value ∙ ap dimension_of c.deref.ensures.value in
    let found = subst (λ (ps : List (List ℤ)). HaveHull ps facets vertices) c.deref-2.ensures.value
    (have_hull c.deref-2.result.now facets vertices c.dimension-dim.result (is ∙ sym (ap dimension_of c.deref-2.ensures.value))
    c.dimension-dim.ensures.least c.dimension-dim.ensures.most c.in_ok-facets.ensures.solid c.in_ok-facets.ensures.facets
    c.in_ok-facets.ensures.vertices c.in_ok-facets.ensures.few_facets c.in_ok-facets.ensures.few_vertices) in
    let count : c.len.result ≡ length points = search rules in
    let few : length points ≤ 16384 = omega (arith, count, c.if-len-gt-MOST_POINTS.false) in
    held points facets vertices found c.dimension-dim.result is points (made points facets vertices found points c.requires.all few)
