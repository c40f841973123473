use Rattle.std.proofs.Common.{ℕ, List, ℤ, sym, subst}
use Rattle.std.proofs.lemmas.Result.{IfOk-weaker}
use Rattle.lattice_core.specs.Dimensions.{dimension_of}
use Rattle.lattice_core.specs.PointLists.{AreSizedPoints}
use Rattle.hull_growth.specs.Grown.{HasFacets}
use Rattle.hull.specs.steps.Growing.{IsOuter, IsWholeHull}
use Rattle.hull.specs.steps.Simplex.{IsSimplex}
use Rattle.hull.specs.steps.Widths.{ServesPoints}
use Rattle.hull.proofs.OuterPoints.{outer_sized, outer_serves, outer_simplex, outer_whole}
use Rattle.hull.proofs.facets.whole_hull.Goals as goal
use Rattle.hull.proofs.facets.whole_hull.Goals.{After-deref-3}

-- the simplex's facets
facets : (c : After-deref-3) → HasFacets (dimension_of c.in_ok-corners.corners.items) c.in_ok-corners.corners.items c.in_ok-corners.functions.items
facets c = subst (λ (n : ℕ). HasFacets n c.in_ok-corners.corners.items c.in_ok-corners.functions.items)
    (sym c.in_ok-corners.ensures.corners.dimension) c.in_ok-corners.ensures.facets

-- the points outside it
outer : (c : After-deref-3) → IsOuter c.in_ok-corners.corners.items c.in_ok-corners.functions.items c.args.points.now c.in_ok-outer.outer.items
outer c = rw (c.deref.ensures.value, c.deref-2.ensures.value) at c.in_ok-outer.ensures

pub grown_hull-requires-clause-points : goal.grown_hull-requires-clause-points
grown_hull-requires-clause-points c = subst AreSizedPoints (sym c.deref-3.ensures.value)
    (outer_sized c.args.points.now c.in_ok-corners.corners.items c.in_ok-outer.outer.items c.in_ok-corners.functions.items c.requires.points
    c.in_ok-corners.ensures.corners (facets c) (outer c))

pub grown_hull-requires-clause-simplex : goal.grown_hull-requires-clause-simplex
grown_hull-requires-clause-simplex c = subst (λ (ps : List (List ℤ)). IsSimplex ps c.in_ok-corners.corners.items) (sym c.deref-3.ensures.value)
    (outer_simplex c.args.points.now c.in_ok-corners.corners.items c.in_ok-outer.outer.items c.in_ok-corners.functions.items c.requires.points
    c.in_ok-corners.ensures.corners (facets c) (outer c))

pub grown_hull-requires-clause-width : goal.grown_hull-requires-clause-width
grown_hull-requires-clause-width c = subst (λ (ps : List (List ℤ)). ServesPoints ps c.args.width) (sym c.deref-3.ensures.value)
    (outer_serves c.args.points.now c.in_ok-corners.corners.items c.in_ok-outer.outer.items c.in_ok-corners.functions.items c.requires.points
    c.in_ok-corners.ensures.corners (facets c) (outer c) c.args.width c.requires.width)

pub returns : goal.returns
returns c =
    let at = (goal.at.returns c).After-deref-3 in
    IfOk-weaker c.grown_hull.result (λ hull. IsWholeHull c.in_ok-outer.outer.items hull.0.items hull.1.items)
    (λ hull. IsWholeHull c.args.points.now hull.0.items hull.1.items)
    (λ hull h. outer_whole c.args.points.now c.in_ok-corners.corners.items c.in_ok-outer.outer.items c.in_ok-corners.functions.items c.requires.points
    c.in_ok-corners.ensures.corners (facets at) (outer at) hull.0.items hull.1.items h)
    (rw c.deref-3.ensures.value at c.grown_hull.ensures)
