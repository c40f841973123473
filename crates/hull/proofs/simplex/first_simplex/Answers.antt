use Rattle.std.proofs.Common.{◌≡◌, ◌+◌, ◌<◌, sym, ◌∙◌, arith}
use Rattle.std.proofs.lemmas.List.{get_or_default}
use Rattle.lattice_core.specs.Dimensions.{dimension_of}
use Rattle.lattice_core.proofs.Dimension.{dimension_first}
use Rattle.facet_theory.specs.Solid.{AreSolid}
use Rattle.hull.specs.steps.Tight.{function_of}
use Rattle.hull.proofs.SimplexLoop.{placed_first, placed_more, simplex_fits, simplex_somewhere, all_placed, placed_facets}
use Rattle.hull.proofs.simplex.first_simplex.Goals as goal

pub loop-place-init : goal.loop-place-init
loop-place-init c =
    let points = c.args.points.now in
    let n = dimension_of points in
    let n_is : c.dim-n.result ≡ n = c.dim-n.ensures.value
    ∙ dimension_first points c.index-points-0.result c.requires.points.sized.are_points.some c.index-points-0.is in
    let solid : AreSolid n points = record {
      coordinates = omega (arith, n_is, c.dim-n.ensures.least);
      dimension = c.requires.points.sized.are_points.one_dimension;
      solid = c.requires.points.solid;
    } in
    placed_first n points c.index-points-0-2.result c.in_ok-corners.corners.items c.in_ok-corners.functions.items solid
    (0, c.requires.points.sized.are_points.some, sym c.index-points-0-2.is) c.in_ok-corners.ensures

pub farthest-far-requires-clause-dimension : goal.farthest-far-requires-clause-dimension
farthest-far-requires-clause-dimension c =
    let points = c.args.points.now in
    let n = dimension_of points in
    let n_is : c.dim-n.result ≡ n = c.dim-n.ensures.value
    ∙ dimension_first points c.index-points-0.result c.requires.points.sized.are_points.some c.index-points-0.is in
    let solid : AreSolid n points = record {
      coordinates = omega (arith, n_is, c.dim-n.ensures.least);
      dimension = c.requires.points.sized.are_points.one_dimension;
      solid = c.requires.points.solid;
    } in
    let simplex = c.loop-place.invariant.simplex in
    let below : c.loop-place.place < n + 1 = (let count = simplex.facing.function_count in omega (arith, n_is, c.loop-place-test.true)) in
    let own : c.index.result.now ≡ function_of c.loop-place.functions.items c.loop-place.place = c.index.ensures
    ∙ get_or_default c.loop-place.functions.items c.loop-place.place _ _ (let count = simplex.facing.function_count in omega arith) in
    λ k d l. c.requires.points.sized.are_points.one_dimension k d l ∙ sym (rw own (simplex.facing.dimension c.loop-place.place below))

pub farthest-far-requires-clause-fits : goal.farthest-far-requires-clause-fits
farthest-far-requires-clause-fits c =
    let points = c.args.points.now in
    let n = dimension_of points in
    let n_is : c.dim-n.result ≡ n = c.dim-n.ensures.value
    ∙ dimension_first points c.index-points-0.result c.requires.points.sized.are_points.some c.index-points-0.is in
    let solid : AreSolid n points = record {
      coordinates = omega (arith, n_is, c.dim-n.ensures.least);
      dimension = c.requires.points.sized.are_points.one_dimension;
      solid = c.requires.points.solid;
    } in
    let simplex = c.loop-place.invariant.simplex in
    let below : c.loop-place.place < n + 1 = (let count = simplex.facing.function_count in omega (arith, n_is, c.loop-place-test.true)) in
    let own : c.index.result.now ≡ function_of c.loop-place.functions.items c.loop-place.place = c.index.ensures
    ∙ get_or_default c.loop-place.functions.items c.loop-place.place _ _ (let count = simplex.facing.function_count in omega arith) in
    rw own (simplex_fits n c.loop-place.place points c.loop-place.corners.items c.loop-place.functions.items solid simplex below
    c.args.width c.requires.width)

pub farthest-far-requires-clause-somewhere : goal.farthest-far-requires-clause-somewhere
farthest-far-requires-clause-somewhere c =
    let points = c.args.points.now in
    let n = dimension_of points in
    let n_is : c.dim-n.result ≡ n = c.dim-n.ensures.value
    ∙ dimension_first points c.index-points-0.result c.requires.points.sized.are_points.some c.index-points-0.is in
    let solid : AreSolid n points = record {
      coordinates = omega (arith, n_is, c.dim-n.ensures.least);
      dimension = c.requires.points.sized.are_points.one_dimension;
      solid = c.requires.points.solid;
    } in
    let simplex = c.loop-place.invariant.simplex in
    let below : c.loop-place.place < n + 1 = (let count = simplex.facing.function_count in omega (arith, n_is, c.loop-place-test.true)) in
    let own : c.index.result.now ≡ function_of c.loop-place.functions.items c.loop-place.place = c.index.ensures
    ∙ get_or_default c.loop-place.functions.items c.loop-place.place _ _ (let count = simplex.facing.function_count in omega arith) in
    rw own (simplex_somewhere n c.loop-place.place points c.loop-place.corners.items c.loop-place.functions.items solid simplex below)

pub exchange-requires-clause-place : goal.exchange-requires-clause-place
exchange-requires-clause-place c =
    let points = c.args.points.now in
    let n = dimension_of points in
    let n_is : c.dim-n.result ≡ n = c.dim-n.ensures.value
    ∙ dimension_first points c.index-points-0.result c.requires.points.sized.are_points.some c.index-points-0.is in
    let solid : AreSolid n points = record {
      coordinates = omega (arith, n_is, c.dim-n.ensures.least);
      dimension = c.requires.points.sized.are_points.one_dimension;
      solid = c.requires.points.solid;
    } in
    let simplex = c.loop-place.invariant.simplex in
    let below : c.loop-place.place < n + 1 = (let count = simplex.facing.function_count in omega (arith, n_is, c.loop-place-test.true)) in
    let own : c.index.result.now ≡ function_of c.loop-place.functions.items c.loop-place.place = c.index.ensures
    ∙ get_or_default c.loop-place.functions.items c.loop-place.place _ _ (let count = simplex.facing.function_count in omega arith) in
    below

pub exchange-requires-clause-nonzero : goal.exchange-requires-clause-nonzero
exchange-requires-clause-nonzero c =
    let points = c.args.points.now in
    let n = dimension_of points in
    let n_is : c.dim-n.result ≡ n = c.dim-n.ensures.value
    ∙ dimension_first points c.index-points-0.result c.requires.points.sized.are_points.some c.index-points-0.is in
    let solid : AreSolid n points = record {
      coordinates = omega (arith, n_is, c.dim-n.ensures.least);
      dimension = c.requires.points.sized.are_points.one_dimension;
      solid = c.requires.points.solid;
    } in
    let simplex = c.loop-place.invariant.simplex in
    let below : c.loop-place.place < n + 1 = (let count = simplex.facing.function_count in omega (arith, n_is, c.loop-place-test.true)) in
    let own : c.index.result.now ≡ function_of c.loop-place.functions.items c.loop-place.place = c.index.ensures
    ∙ get_or_default c.loop-place.functions.items c.loop-place.place _ _ (let count = simplex.facing.function_count in omega arith) in
    rw own at c.farthest-far.ensures.nonzero

pub loop-place-preserved : goal.loop-place-preserved
loop-place-preserved c =
    let points = c.args.points.now in
    let n = dimension_of points in
    let n_is : c.dim-n.result ≡ n = c.dim-n.ensures.value
    ∙ dimension_first points c.index-points-0.result c.requires.points.sized.are_points.some c.index-points-0.is in
    let solid : AreSolid n points = record {
      coordinates = omega (arith, n_is, c.dim-n.ensures.least);
      dimension = c.requires.points.sized.are_points.one_dimension;
      solid = c.requires.points.solid;
    } in
    let simplex = c.loop-place.invariant.simplex in
    let below : c.loop-place.place < n + 1 = (let count = simplex.facing.function_count in omega (arith, n_is, c.loop-place-test.true)) in
    let own : c.index.result.now ≡ function_of c.loop-place.functions.items c.loop-place.place = c.index.ensures
    ∙ get_or_default c.loop-place.functions.items c.loop-place.place _ _ (let count = simplex.facing.function_count in omega arith) in
    placed_more n c.loop-place.place c.farthest-far.result points c.loop-place.corners.items _ c.loop-place.functions.items _ below
    c.farthest-far.ensures.within c.exchange.ensures.corners c.exchange.ensures.simplex c.loop-place.invariant

pub returns-clause-corners : goal.returns-clause-corners
returns-clause-corners c =
    let points = c.args.points.now in
    let n = dimension_of points in
    let n_is : c.dim-n.result ≡ n = c.dim-n.ensures.value
    ∙ dimension_first points c.index-points-0.result c.requires.points.sized.are_points.some c.index-points-0.is in
    let solid : AreSolid n points = record {
      coordinates = omega (arith, n_is, c.dim-n.ensures.least);
      dimension = c.requires.points.sized.are_points.one_dimension;
      solid = c.requires.points.solid;
    } in
    all_placed points c.loop-place.corners.items c.loop-place.functions.items c.loop-place.place c.requires.points
    (omega (arith, n_is, c.loop-place-test.false)) c.loop-place.invariant

pub returns-clause-facets : goal.returns-clause-facets
returns-clause-facets c = placed_facets (dimension_of c.args.points.now) c.args.points.now c.loop-place.corners.items c.loop-place.functions.items
    c.loop-place.place c.loop-place.invariant
