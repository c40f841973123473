use Rattle.std.proofs.Common.{◌≡◌, ℕ, length, sym, ap, ◌∙◌, subst, All, Contains}
use Rattle.std.proofs.lemmas.List.{take_all}
use Rattle.std.proofs.lemmas.List.Elements.{All-contains, All-weaker, All-contains_itself}
use Rattle.lattice_theory.specs.Vector.{HaveDimension}
use Rattle.lattice_theory.specs.Facet.{IsFlat, AreFacetsInAnyOrder}
use Rattle.lattice_core.specs.Dimensions.{dimension_of}
use Rattle.lattice_core.specs.ValueWidths.{FitsWidth}
use Rattle.hull.proofs.FacetBounds.{corner_facets_fit}
use Rattle.hull.specs.steps.Growing.{IsOuter}
use Rattle.hull.proofs.OuterPoints.{outer_first, outer_same, outer_more}
use Rattle.hull.proofs.outer.outer_points.Goals as goal
use Rattle.hull.proofs.outer.outer_points.Goals.{After-p-item, then-not-are_nonnegative+in_ok-push, else-not-are_nonnegative}

-- this turn's point is one of the points
is_point : (c : After-p-item) → Contains c.args.points.now c.p-item.result
is_point c = (c.loop-p.p-index, c.loop-p-test.true, sym c.p-item.is)

pub loop-p-init : goal.loop-p-init
loop-p-init c = outer_first c.args.corners.now c.args.functions.now c.in_ok-outer.outer.items c.in_ok-outer.ensures

pub are_nonnegative-requires-clause-dimension : goal.are_nonnegative-requires-clause-dimension
are_nonnegative-requires-clause-dimension c =
    let points = c.args.points.now in
    let corners = c.args.corners.now in
    let functions = c.args.functions.now in
    let long : length c.p-item.result ≡ dimension_of points = All-contains (λ p. length p ≡ dimension_of points) points c.p-item.result
    c.requires.points.sized.are_points.one_dimension (is_point ((goal.at.are_nonnegative-requires-clause-dimension c).After-p-item)) in
    All-weaker (Contains functions) (λ f. length f.normal ≡ length c.p-item.result)
    (λ f m. ((c.requires.facets.members f).0 m).dimension ∙ c.requires.simplex.dimension ∙ sym long) functions (All-contains_itself functions)

pub are_nonnegative-requires-clause-fits : goal.are_nonnegative-requires-clause-fits
are_nonnegative-requires-clause-fits c =
    let points = c.args.points.now in
    let corners = c.args.corners.now in
    let functions = c.args.functions.now in
    let width = c.args.width in
    let p = c.p-item.result in
    let own = c.requires.simplex.solid in
    let same = c.requires.simplex.dimension in
    let fit = corner_facets_fit (dimension_of points) points corners functions width
    c.requires.points.sized.are_points.one_dimension
    (subst (λ (n : ℕ). HaveDimension n corners) same own.sized.are_points.one_dimension)
    (subst (λ (n : ℕ). IsFlat n corners → ⊥) same own.solid) c.requires.simplex.among
    (subst (λ (n : ℕ). AreFacetsInAnyOrder n corners functions) same c.requires.facets.members)
    c.requires.width in
    All-weaker (λ f. All (FitsWidth width f) points) (λ f. FitsWidth width f p)
    (λ f all. All-contains (FitsWidth width f) points p all (is_point ((goal.at.are_nonnegative-requires-clause-fits c).After-p-item))) functions fit

pub loop-p-preserved : goal.loop-p-preserved
loop-p-preserved c =
    let corners = c.args.corners.now in
    let functions = c.args.functions.now in
    let points = c.args.points.now in
    let i = c.loop-p.p-index in
    let p = c.p-item.result in
    elim c.if-not-are_nonnegative.branch [
      | then-not-are_nonnegative+in_ok-push w ↦ outer_more corners functions points i p w.copied.result c.loop-p.outer.items
          c.if-not-are_nonnegative.outer.items c.loop-p-test.true c.p-item.is w.copied.ensures
          (ap (λ ps. ps.items) w.outer-is ∙ w.in_ok-push.ensures.items) c.loop-p.invariant
      | else-not-are_nonnegative w ↦ outer_same corners functions points i p c.loop-p.outer.items c.if-not-are_nonnegative.outer.items
          c.loop-p-test.true c.p-item.is (c.are_nonnegative.ensures.0 w.if-not-are_nonnegative.false)
          (ap (λ ps. ps.items) w.outer-is) c.loop-p.invariant
    ]

pub returns : goal.returns
returns c =
    subst (λ ps. IsOuter c.args.corners.now c.args.functions.now ps c.loop-p.outer.items) (take_all _ _ c.loop-p-test.false) c.loop-p.invariant
