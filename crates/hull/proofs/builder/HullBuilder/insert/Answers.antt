use Rattle.std.proofs.Common.{◌≡◌, ◌++◌, ◌∷◌, [], length, sym, ap, ◌∙◌, subst, Contains}
use Rattle.std.specs.Prelude.{OnOk}
use Rattle.std.proofs.lemmas.List.Elements.{Contains-append_left}
use Rattle.lattice_core.specs.Dimensions.{dimension_of}
use Rattle.lattice_core.specs.PointLists.{AreSizedPoints}
use Rattle.hull_growth.specs.Grown.{HasFacets}
use Rattle.hull_growth.proofs.MorePoints.{dimension_more}
use Rattle.hull.specs.Built.{IsBuilt}
use Rattle.hull.proofs.Growing.{built_grown, built_more, of_ok, of_err, on_ok, popped}
use Rattle.hull.proofs.builder.HullBuilder.insert.Goals as goal
use Rattle.hull.proofs.builder.HullBuilder.insert.Goals.{After-deref, Else-is_err}

-- the points with one more
more_points : (c : After-deref) → c.push.new.self.items ≡ c.self.inside.points.items ++ (c.args.p.now ∷ [])
more_points c = c.in_ok-push.ensures.items ∙ ap (λ q. c.self.inside.points.items ++ (q ∷ [])) c.copied.ensures

-- the point's dimension
same : (c : After-deref) → length c.args.p.now ≡ dimension_of c.self.inside.points.items
same c = subst (λ b. length c.args.p.now ≡ dimension_of b.points) (sym c.self.view_is) c.requires

pub grow_within-grown-requires-clause-among : goal.grow_within-grown-requires-clause-among
grow_within-grown-requires-clause-among c = λ q m. subst (λ ps. Contains ps q) (sym (c.deref.ensures.value ∙ more_points c))
    (Contains-append_left c.self.inside.points.items (c.args.p.now ∷ []) q (c.self.invariant.among q m))

pub invariant_of-self-then-is_err : goal.invariant_of-self-then-is_err
invariant_of-self-then-is_err c =
    let at = (goal.at.invariant_of-self-then-is_err c).After-deref in
    let left = popped c.self.inside.points.items c.push.new.self.items c.pop.new.self.items c.args.p.now _ (more_points at)
    (sym c.deref.ensures.len ∙ ap length c.deref.ensures.value) c.pop.ensures.rest in
    let growth = of_err c.grow_within-grown.result _ (sym c.is_err.ensures.value ∙ c.if-is_err.true) c.grow_within-grown.ensures.unchanged in
    subst (λ ps. IsBuilt ps c.grow_within-grown.new.growth) (sym left) (subst (IsBuilt c.self.inside.points.items) (sym growth) c.self.invariant)

-- the facets with the point
new_facets : (c : Else-is_err) → OnOk c.grow_within-grown.result (HasFacets (dimension_of c.push.new.self.items)
    (c.self.inside.growth.corners ++ (c.args.p.now ∷ [])) c.grow_within-grown.new.growth.facets)
new_facets c = subst (λ ps. OnOk c.grow_within-grown.result (HasFacets (dimension_of ps)
    (c.self.inside.growth.corners ++ (c.args.p.now ∷ [])) c.grow_within-grown.new.growth.facets)) c.deref.ensures.value
    c.grow_within-grown.ensures.facets

pub invariant_of-self-else-is_err : goal.invariant_of-self-else-is_err
invariant_of-self-else-is_err c =
    let at = (goal.at.invariant_of-self-else-is_err c).After-deref in
    let ok = sym c.is_err.ensures.value ∙ c.if-is_err.false in
    let r = c.grow_within-grown.result in
    built_grown c.self.inside.points.items c.push.new.self.items c.self.inside.growth c.grow_within-grown.new.growth c.args.p.now
    (more_points at) c.self.invariant (same at)
    (subst AreSizedPoints c.deref.ensures.value (of_ok r _ ok c.grow_within-grown.ensures.sized))
    (of_ok r _ ok (new_facets c)) (of_ok r _ ok c.grow_within-grown.ensures.corners)

pub returns-else-is_err-clause-facets : goal.returns-else-is_err-clause-facets
returns-else-is_err-clause-facets c =
    let at = (goal.at.returns-else-is_err-clause-facets c).After-deref in
    let points = c.self.inside.points.items in
    let p = c.args.p.now in
    let growth = c.grow_within-grown.new.growth in
    subst (λ b. OnOk c.grow_within-grown.result (HasFacets (dimension_of b.points) (b.points ++ (p ∷ [])) growth.facets)) c.self.view_is
    (on_ok c.grow_within-grown.result (HasFacets (dimension_of c.push.new.self.items) (c.self.inside.growth.corners ++ (p ∷ [])) growth.facets)
    (HasFacets (dimension_of points) (points ++ (p ∷ [])) growth.facets)
    (λ h. built_more points c.self.inside.growth p growth.facets c.self.invariant (same at)
    (subst (λ n. HasFacets n (c.self.inside.growth.corners ++ (p ∷ [])) growth.facets)
    (ap dimension_of (more_points at) ∙ dimension_more points p c.self.invariant.solid.sized.are_points.some) h)) (new_facets c))
