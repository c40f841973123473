use Rattle.std.specs.Prelude.{pos, nat_abs, ◌^◌}
use Rattle.std.proofs.Common.{◌≤◌, ◌∙◌, length, sym, ap, subst, arith}
use Rattle.lattice_core.specs.Dimensions.{dimension_of}
use Rattle.lattice_theory.specs.Affine.{Affine}
use Rattle.lattice_theory.specs.Facet.{IsFacet}
use Rattle.facet_theory.specs.Solid.{AreSolid}
use Rattle.point_scan.proofs.Constants.{constants_small}
use Rattle.point_scan.proofs.Holdings.{holds_more}
use Rattle.point_scan.proofs.Values.{product_abs}
use Rattle.point_scan.proofs.dilates.facet_region.Goals as goal
use Rattle.point_scan.proofs.dilates.facet_region.Goals.{After-facet-item}

-- the constant of the facet is small
constant_small : (c : After-facet-item) → nat_abs c.facet-item.result.constant ≤ 2 ^ 100
constant_small c =
    let points = c.args.vertices.now in
    let sound = c.loop-facet.invariant.sound in
    let least = sound.least in
    let most = sound.most in
    let dimension = c.loop-facet.invariant.dimension in
    let solid : AreSolid (dimension_of points) points = record {
      coordinates = omega arith;
      dimension = c.requires.vertices.sized.are_points.one_dimension;
      solid = c.requires.vertices.solid;
    } in
    let all = constants_small (dimension_of points) points c.args.facets.now solid (omega arith) c.requires.vertices.sized.within c.requires.facets in
    subst (λ (f : Affine). nat_abs f.constant ≤ 2 ^ 100) (sym c.facet-item.is)
    (all c.loop-facet.facet-index c.facet-item.result c.loop-facet-test.true)

pub dilated-requires-clause-constant : goal.dilated-requires-clause-constant
dilated-requires-clause-constant c = constant_small (goal.at.dilated-requires-clause-constant c).After-facet-item

pub add-requires-clause-constant : goal.add-requires-clause-constant
add-requires-clause-constant c =
    let small = constant_small (goal.at.add-requires-clause-constant c).After-facet-item in
    let factor : nat_abs (pos c.args.dilate) ≤ 7 = c.requires.dilate in
    let product = product_abs (pos c.args.dilate) c.facet-item.result.constant factor small in
    rw c.dilated.ensures.constant (omega (arith, product))

pub add-requires-clause-dimension : goal.add-requires-clause-dimension
add-requires-clause-dimension c =
    let facet = (c.requires.facets c.facet-item.result).0 (c.loop-facet.facet-index, c.loop-facet-test.true, sym c.facet-item.is) in
    ap length c.dilated.ensures.normal ∙ facet.dimension ∙ sym c.loop-facet.invariant.dimension

pub loop-facet-preserved : goal.loop-facet-preserved
loop-facet-preserved c =
    let points = c.args.vertices.now in
    let facet : IsFacet (dimension_of points) points c.facet-item.result =
    (c.requires.facets c.facet-item.result).0 (c.loop-facet.facet-index, c.loop-facet-test.true, sym c.facet-item.is) in
    holds_more (dimension_of points) points c.args.dilate c.args.facets.now c.loop-facet.facet-index c.facet-item.result c.dilated.result
    c.loop-facet.region c.add.new.self c.loop-facet-test.true c.facet-item.is c.dilated.ensures.normal c.dilated.ensures.constant
    c.loop-facet.invariant c.in_ok-add.ensures.sound c.in_ok-add.ensures.dimension c.in_ok-add.ensures.members
    (λ x d. d.inside c.facet-item.result facet)
