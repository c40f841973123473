use Rattle.std.proofs.Common.{rules, ℕ, ◌≡◌, ◌↔◌, ◌<◌, List, length, ℤ, sym, ◌∙◌, subst, Contains}
use Rattle.std.proofs.lemmas.List.Elements.{All-contains}
use Rattle.lattice_theory.specs.Affine.{Affine}
use Rattle.lattice_core.specs.Dimensions.{dimension_of}
use Rattle.hull_growth.specs.Beyond.{IsFirstBeyond}
use Rattle.hull_growth.specs.Grown.{HasFacets}
use Rattle.lattice_theory.specs.Vector.{HaveDimension}
use Rattle.lattice_theory.specs.Facet.{IsFlat, AreFacetsInAnyOrder}
use Rattle.hull.proofs.FacetBounds.{corner_facets_fit}
use Rattle.hull.specs.steps.Growing.{IsGrowing, IsWholeHull}
use Rattle.hull.proofs.Growing.{beyond_within, beyond_new, beyond_behind, facets_match, facets_dimension_of, turn_within, growing_more, growing_whole, others_less}
use Rattle.hull.proofs.facets.grown_hull.Goals as goal
use Rattle.hull.proofs.facets.grown_hull.Goals.{After-facets, After-index-points-beyond}

pub first_beyond-requires-clause-dimension : goal.first_beyond-requires-clause-dimension
first_beyond-requires-clause-dimension c = facets_match (dimension_of c.args.points.now) c.args.points.now c.loop-beyond.growth.corners
    c.facets.result.now c.requires.points.are_points.one_dimension
    (subst (λ n. HasFacets n c.loop-beyond.growth.corners c.facets.result.now) c.loop-beyond.invariant.dimension c.facets.ensures.facets)

pub first_beyond-requires-clause-fits : goal.first_beyond-requires-clause-fits
first_beyond-requires-clause-fits c =
    let points = c.args.points.now in
    let corners = c.loop-beyond.growth.corners in
    let own = c.facets.ensures.solid in
    corner_facets_fit (dimension_of points) points corners c.facets.result.now c.args.width
    c.requires.points.are_points.one_dimension
    (subst (λ (n : ℕ). HaveDimension n corners) c.loop-beyond.invariant.dimension own.sized.are_points.one_dimension)
    (subst (λ (n : ℕ). IsFlat n corners → ⊥) c.loop-beyond.invariant.dimension own.solid) c.loop-beyond.invariant.among
    (subst (λ (n : ℕ). AreFacetsInAnyOrder n corners c.facets.result.now) c.loop-beyond.invariant.dimension c.facets.ensures.facets.members)
    c.requires.width

pub offset_bounds-points-beyond : goal.offset_bounds-points-beyond
offset_bounds-points-beyond c =
    let l : c.in-Some.beyond.point < length c.args.points.now = beyond_within c.args.points.now c.facets.result.now c.loop-beyond.done
    c.in-Some.beyond.facet c.in-Some.beyond.point c.in-Some.ensures in
    search rules

pub bounds-points-beyond : goal.bounds-points-beyond
bounds-points-beyond c = beyond_within c.args.points.now c.facets.result.now c.loop-beyond.done c.in-Some.beyond.facet
    c.in-Some.beyond.point c.in-Some.ensures

-- the point of this turn is one of the points
member : (c : After-index-points-beyond) → Contains c.args.points.now c.index-points-beyond.result
member c = (
  c.in-Some.beyond.point,
  beyond_within c.args.points.now c.facets.result.now c.loop-beyond.done c.in-Some.beyond.facet c.in-Some.beyond.point c.in-Some.ensures,
  sym c.index-points-beyond.is,
)

-- its dimension
same : (c : After-index-points-beyond) → length c.index-points-beyond.result ≡ dimension_of c.args.points.now
same c = All-contains (λ p. length p ≡ dimension_of c.args.points.now) c.args.points.now c.index-points-beyond.result
    c.requires.points.are_points.one_dimension (member c)

-- it lies beyond the first such facet
first : (c : After-index-points-beyond) → IsFirstBeyond c.loop-beyond.growth.facets c.args.points.now c.loop-beyond.done
    c.in-Some.beyond.facet c.in-Some.beyond.point
first c = subst (λ fs. IsFirstBeyond fs c.args.points.now c.loop-beyond.done c.in-Some.beyond.facet c.in-Some.beyond.point)
    c.facets.ensures.value c.in-Some.ensures

pub grow-requires-clause-dimension : goal.grow-requires-clause-dimension
grow-requires-clause-dimension c = same c ∙ sym c.loop-beyond.invariant.dimension

pub grow-requires-clause-within : goal.grow-requires-clause-within
grow-requires-clause-within c = turn_within c.args.points.now c.loop-beyond.growth.corners c.loop-beyond.growth.facets c.loop-beyond.done
    c.index-points-beyond.result c.requires.points c.loop-beyond.invariant (member c) (same c)

pub loop-beyond-smaller : goal.loop-beyond-smaller
loop-beyond-smaller c =
    let at = (goal.at.loop-beyond-smaller c).After-index-points-beyond in
    let p = c.index-points-beyond.result in
    let b = first at in
    let f = beyond_behind c.args.points.now c.loop-beyond.growth.facets c.loop-beyond.done c.in-Some.beyond.facet c.in-Some.beyond.point p b
    c.index-points-beyond.is in
    others_less c.loop-beyond.growth.corners c.grow.new.self.corners c.args.points.now p (member at)
    (beyond_new (dimension_of c.loop-beyond.growth.corners) c.loop-beyond.growth.corners c.args.points.now c.loop-beyond.growth.facets
    c.loop-beyond.done c.in-Some.beyond.facet c.in-Some.beyond.point p
    (subst (HasFacets (dimension_of c.loop-beyond.growth.corners) c.loop-beyond.growth.corners) c.facets.ensures.value
    c.facets.ensures.facets) b c.index-points-beyond.is)
    (c.in_ok-grow.ensures.outside f.function f.member f.negative)

pub loop-beyond-preserved : goal.loop-beyond-preserved
loop-beyond-preserved c =
    let at = (goal.at.loop-beyond-preserved c).After-index-points-beyond in
    let p = c.index-points-beyond.result in
    let b = first at in
    let f = beyond_behind c.args.points.now c.loop-beyond.growth.facets c.loop-beyond.done c.in-Some.beyond.facet c.in-Some.beyond.point p b
    c.index-points-beyond.is in
    growing_more c.args.points.now c.loop-beyond.growth.corners c.grow.new.self.corners c.loop-beyond.growth.facets c.grow.new.self.facets
    c.loop-beyond.done c.in-Some.beyond.facet c.in-Some.beyond.point p c.loop-beyond.invariant b (member at)
    c.facets.ensures.solid.sized.are_points.some (c.in_ok-grow.ensures.outside f.function f.member f.negative) c.in_ok-grow.ensures.places

pub ascending_functions-requires : goal.ascending_functions-requires
ascending_functions-requires c = (
  dimension_of c.loop-beyond.growth.corners,
  facets_dimension_of (dimension_of c.loop-beyond.growth.corners) c.loop-beyond.growth.corners c.into_parts-corners.result.1.items
      (subst (HasFacets (dimension_of c.loop-beyond.growth.corners) c.loop-beyond.growth.corners)
      (c.facets.ensures.value ∙ sym c.into_parts-corners.ensures.facets) c.facets.ensures.facets),
)

pub returns : goal.returns
returns c =
    let points = c.args.points.now in
    let corners = c.loop-beyond.growth.corners in
    let sorted = c.ascending_functions.new.functions.items in
    subst (λ (cs : List (List ℤ)). IsWholeHull points cs sorted) (sym c.into_parts-corners.ensures.corners)
    (growing_whole points corners c.facets.result.now sorted c.loop-beyond.done c.facets.ensures.solid
    (subst (λ (fs : List Affine). IsGrowing points corners fs c.loop-beyond.done) (sym c.facets.ensures.value) c.loop-beyond.invariant)
    c.facets.ensures.facets c.in_default.ensures c.ascending_functions.ensures.ascends
    (subst (λ (fs : List Affine). (f : Affine) → Contains sorted f ↔ Contains fs f)
    (c.into_parts-corners.ensures.facets ∙ sym c.facets.ensures.value) c.ascending_functions.ensures.members))
