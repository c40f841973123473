use Rattle.std.proofs.Common.{◌≡◌, ◌++◌, ◌∷◌, [], ◌≤ℤ◌, pos, ℕ, length, take, sym, ap, subst, ◌∙◌}
use Rattle.std.proofs.lemmas.Bool.{true≢false}
use Rattle.std.specs.List.{All}
use Rattle.lattice_theory.specs.Affine.{value}
use Rattle.lattice_theory.specs.Hull.{InHull}
use Rattle.lattice_core.specs.Dimensions.{dimension_of}
use Rattle.lattice_core.specs.Limits.{IsSized}
use Rattle.hull_growth.specs.Grown.{HasFacets, IsGrown}
use Rattle.hull_growth.specs.steps.Rows.{AreCornerRows}
use Rattle.hull_growth.specs.steps.Growing.{IsGrowthStep, Appends, IsNewOf, kept_at}
use Rattle.hull_growth.proofs.Small.{facets_constants}
use Rattle.hull_growth.proofs.NewFacetTurns.{grown_facets}
use Rattle.hull_growth.proofs.Inside.{point_bound, point_inside, facets_inside, step_outside, grown_outside, places_outside}
use Rattle.hull_growth.proofs.growth.Growth.grow.Goals as goal
use Rattle.hull_growth.proofs.growth.Growth.grow.Goals.{After-self, Then-is_inside, After-new, After-drop-self-inside-2}

-- the point's dimension
same : (c : After-self) → length c.args.p.now ≡ dimension_of c.self.inside.corners.items
same c = subst (λ b. length c.args.p.now ≡ dimension_of b.corners) (sym c.self.view_is) c.requires.dimension

-- the size with it
within : (c : After-self) → IsSized (length c.args.p.now) (c.self.inside.corners.items ++ (c.args.p.now ∷ []))
within c = subst (λ b. IsSized (length c.args.p.now) (b.corners ++ (c.args.p.now ∷ []))) (sym c.self.view_is) c.requires.within

pub is_inside-requires-clause-small : goal.is_inside-requires-clause-small
is_inside-requires-clause-small c = point_bound c.self.inside.corners.items c.self.inside.facets.functions.items
    c.self.inside.facets.rows.items c.args.p.now c.self.invariant.0 (same c) (within c)

pub returns-then-is_inside-clause-facets : goal.returns-then-is_inside-clause-facets
returns-then-is_inside-clause-facets c =
    let at = (goal.at.returns-then-is_inside-clause-facets c).After-self in
    let inside = c.is_inside.ensures.0 c.if-is_inside.true in
    subst (λ b. HasFacets (length c.args.p.now) (b.corners ++ (c.args.p.now ∷ [])) b.facets) c.self.view_is
    (facets_inside c.self.inside.corners.items c.self.inside.facets.functions.items
    c.self.inside.facets.rows.items c.args.p.now c.self.invariant.0 (same at) (within at)
    (subst (λ b. InHull (dimension_of b.corners) b.corners c.args.p.now) (sym c.self.view_is) inside))

-- the point lies outside
outside : (c : After-new) → InHull (dimension_of c.self.inside.corners.items) c.self.inside.corners.items c.args.p.now → ⊥
outside c inside = true≢false (sym (c.is_inside.ensures.1
    (subst (λ b. InHull (dimension_of b.corners) b.corners c.args.p.now) c.self.view_is inside)) ∙ c.if-is_inside.false)

-- the step
step : (c : After-new) → IsGrowthStep c.self.inside.corners.items c.self.inside.facets.functions.items c.self.inside.facets.rows.items
    c.args.p.now
step c = step_outside c.self.inside.corners.items c.self.inside.facets.functions.items c.self.inside.facets.rows.items c.args.p.now
    c.self.invariant.0 (subst (λ b. length c.args.p.now ≡ dimension_of b.corners) (sym c.self.view_is) c.requires.dimension)
    (subst (λ b. IsSized (length c.args.p.now) (b.corners ++ (c.args.p.now ∷ []))) (sym c.self.view_is) c.requires.within)
    c.self.invariant.1 (outside c)

pub values_at-requires-clause-constants : goal.values_at-requires-clause-constants
values_at-requires-clause-constants c =
    let corners = c.self.inside.corners.items in
    let grown = c.self.invariant.0 in
    rw c.deref.ensures.value
    (facets_constants (dimension_of corners) corners c.self.inside.facets.functions.items grown.solid.sized.are_points.one_dimension
    grown.solid.solid grown.solid.sized.within grown.hull.members)

pub values_at-requires-clause-small : goal.values_at-requires-clause-small
values_at-requires-clause-small c =
    let at = (goal.at.values_at-requires-clause-small c).After-self in
    point_bound c.self.inside.corners.items c.self.inside.facets.functions.items c.self.inside.facets.rows.items c.args.p.now
    c.self.invariant.0 (same at) (within at)

pub add_kept-requires-clause-step : goal.add_kept-requires-clause-step
add_kept-requires-clause-step c = rw c.deref-2.ensures.value (step (goal.at.add_kept-requires-clause-step c).After-new)

pub add_new-requires-clause-step : goal.add_new-requires-clause-step
add_new-requires-clause-step c = rw c.deref-4.ensures.value (step (goal.at.add_new-requires-clause-step c).After-new)

-- the new facets
new_facets : (c : After-drop-self-inside-2) → HasFacets (length c.args.p.now) (c.self.inside.corners.items ++ (c.args.p.now ∷ []))
    c.add_new.new.grown.functions.items
new_facets c =
    let fs = c.self.inside.facets.functions.items in
    let corners = c.self.inside.corners.items in
    let p = c.args.p.now in
    grown_facets corners fs c.self.inside.facets.rows.items p (step (goal.at.returns-clause-facets c).After-new)
    c.add_new.new.grown.functions.items
    (subst (λ us. Appends (IsNewOf corners p fs fs) us c.add_new.new.grown.functions.items)
    (c.in_ok-add_kept.ensures.functions ∙ ap (λ us. us ++ kept_at p fs) c.new.ensures.items)
    (rw c.deref-4.ensures.value at c.in_ok-add_new.ensures.functions))

-- the corners with the point
more_corners : (c : After-drop-self-inside-2) → c.push.new.self.items ≡ c.self.inside.corners.items ++ (c.args.p.now ∷ [])
more_corners c = c.in_ok-push.ensures.items ∙ ap (λ q. c.self.inside.corners.items ++ (q ∷ [])) c.copied.ensures

pub invariant_of-self-2 : goal.invariant_of-self-2
invariant_of-self-2 c =
    let at = (goal.at.returns-clause-facets c).After-self in
    let us = c.add_new.new.grown.functions.items in
    subst (λ cs. IsGrown cs us × AreCornerRows cs us c.add_new.new.grown.rows.items) (sym (more_corners c)) (
      grown_outside c.self.inside.corners.items c.self.inside.facets.functions.items c.self.inside.facets.rows.items c.args.p.now
          c.self.invariant.0 (same at) (within at) us (new_facets c),
      rw c.deref-4.ensures.value at c.in_ok-add_new.ensures.rows,
    )

pub returns-clause-facets : goal.returns-clause-facets
returns-clause-facets c = subst (λ b. HasFacets (length c.args.p.now) (b.corners ++ (c.args.p.now ∷ []))
    c.add_new.new.grown.functions.items) c.self.view_is (new_facets c)

pub returns-clause-inside : goal.returns-clause-inside
returns-clause-inside c = λ all.
    let at = (goal.at.returns-clause-inside c).After-self in
    absurd (outside (goal.at.returns-clause-inside c).After-new
    ((point_inside c.self.inside.corners.items c.self.inside.facets.functions.items c.self.inside.facets.rows.items c.args.p.now
    c.self.invariant.0 (same at) (within at)).0
    (subst (λ b. All (λ f. pos 0 ≤ℤ value f c.args.p.now) b.facets) (sym c.self.view_is) all)))

pub returns-clause-places : goal.returns-clause-places
returns-clause-places c =
    let at = (goal.at.returns-clause-places c).After-self in
    let fs = c.self.inside.facets.functions.items in
    let p = c.args.p.now in
    let added = rw c.deref-4.ensures.value at c.in_ok-add_new.ensures.functions in
    subst (λ b. (k : ℕ) → All (λ f. pos 0 ≤ℤ value f p) (take k b.facets) → take k c.add_new.new.grown.functions.items ≡ take k b.facets)
    c.self.view_is
    (λ k all. ap (take k) (added.whole ∙ ap (λ us. us ++ added.more)
    (c.in_ok-add_kept.ensures.functions ∙ ap (λ us. us ++ kept_at p fs) c.new.ensures.items))
    ∙ places_outside c.self.inside.corners.items fs c.self.inside.facets.rows.items p c.self.invariant.0 (same at) (within at)
    (outside (goal.at.returns-clause-places c).After-new) k added.more all)
