use Rattle.std.specs.Prelude.{pos, nat_abs}
use Rattle.std.proofs.Common.{◌≤◌, sym, subst, arith}
use Rattle.lattice_core.specs.Dimensions.{dimension_of}
use Rattle.facet_theory.specs.Solid.{AreSolid}
use Rattle.point_scan.specs.ProjectionSteps.{IsBound}
use Rattle.point_scan.specs.declared.bounds.Bound.{Bound}
use Rattle.point_scan.proofs.BoundSteps.{holds_bound}
use Rattle.point_scan.proofs.Values.{product_abs}
use Rattle.point_scan.proofs.dilates.dilate_region.Goals as goal
use Rattle.point_scan.proofs.dilates.dilate_region.Goals.{After-index}

-- what is added is a bound
is_bound : (c : After-index) → IsBound (dimension_of c.args.vertices.now) c.args.vertices.now c.index.result.now.function
is_bound c =
    let points = c.args.vertices.now in
    subst (λ (b : Bound). IsBound (dimension_of points) points b.function) (sym c.index.ensures)
    (c.in_ok-bounds.ensures c.loop-i.i c.index.result.now (let e = c.len-i-end.ensures in let t = c.loop-i-test.true in omega (arith, e, t)))

pub add-requires-clause-constant : goal.add-requires-clause-constant
add-requires-clause-constant c =
    let small = (is_bound (goal.at.add-requires-clause-constant c).After-index).small in
    let factor : nat_abs (pos c.args.dilate) ≤ 7 = c.requires.dilate in
    let product = product_abs (pos c.args.dilate) c.index.result.now.function.constant factor small in
    rw c.dilated.ensures.constant (omega (arith, product))

pub loop-i-preserved : goal.loop-i-preserved
loop-i-preserved c =
    let points = c.args.vertices.now in
    let sound = c.loop-i.invariant.sound in
    let least = sound.least in
    let dimension = c.loop-i.invariant.dimension in
    let solid : AreSolid (dimension_of points) points = record {
      coordinates = omega arith;
      dimension = c.requires.vertices.sized.are_points.one_dimension;
      solid = c.requires.vertices.solid;
    } in
    let bound = is_bound (goal.at.loop-i-preserved c).After-index in
    holds_bound (dimension_of points) points solid c.args.dilate c.args.facets.now c.index.result.now.function c.dilated.result c.loop-i.region
    c.add.new.self bound c.dilated.ensures.normal c.dilated.ensures.constant c.loop-i.invariant c.in_ok-add.ensures.sound
    c.in_ok-add.ensures.dimension c.in_ok-add.ensures.members
