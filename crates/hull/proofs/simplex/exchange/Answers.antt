use Rattle.std.proofs.Common.{◌≡◌, ◌≢◌, ◌+◌, ◌<◌, pos, set, List, refl, sym, ap, ◌∙◌, subst, arith}
use Rattle.std.proofs.lemmas.List.{get_or_default}
use Rattle.lattice_theory.specs.Affine.{Affine, value}
use Rattle.lattice_core.specs.Dimensions.{dimension_of}
use Rattle.hull.specs.steps.Tight.{function_of}
use Rattle.hull.specs.steps.Facing.{IsReachedBy, IsTurned}
use Rattle.hull.proofs.SimplexTurns.{point_reached, exchange_point, exchange_constant, exchange_entries, exchange_function, turnable}
use Rattle.hull.proofs.SimplexTurns.{none_turned, one_turned, own_skipped, exchanged_simplex, IsTurnedBelow}
use Rattle.hull.proofs.simplex.exchange.Goals as goal
use Rattle.hull.proofs.simplex.exchange.Goals.{then-i-place, else-i-place}

pub axes_at-axis-requires-clause-point : goal.axes_at-axis-requires-clause-point
axes_at-axis-requires-clause-point c =
    let points = c.args.points.now in
    let n = dimension_of points in
    let k = c.args.place in
    let functions = c.args.functions.now.items in
    let corners = c.args.corners.now.items in
    let p = c.index-points-far.result in
    let simplex = c.requires.simplex in
    let sized = c.requires.points.sized.within in
    let reached : IsReachedBy n points p = point_reached n points p c.requires.points.sized.are_points.one_dimension
    (c.args.far, c.requires.far, sym c.index-points-far.is) in
    let nonzero : value (function_of functions k) p ≢ pos 0 = subst (λ x. value (function_of functions k) x ≢ pos 0)
    (sym (c.index-points-far.is ∙ get_or_default points c.args.far _ _ c.requires.far)) c.requires.nonzero in
    let own : c.index.result.now ≡ function_of functions k = c.index.ensures
    ∙ get_or_default functions k _ _ (let count = simplex.facing.function_count in let place = c.requires.place in omega arith) in
    exchange_point n k points corners functions p simplex sized c.requires.place reached nonzero

pub axes_at-axis-requires-clause-constant : goal.axes_at-axis-requires-clause-constant
axes_at-axis-requires-clause-constant c =
    let points = c.args.points.now in
    let n = dimension_of points in
    let k = c.args.place in
    let functions = c.args.functions.now.items in
    let corners = c.args.corners.now.items in
    let p = c.index-points-far.result in
    let simplex = c.requires.simplex in
    let sized = c.requires.points.sized.within in
    let reached : IsReachedBy n points p = point_reached n points p c.requires.points.sized.are_points.one_dimension
    (c.args.far, c.requires.far, sym c.index-points-far.is) in
    let nonzero : value (function_of functions k) p ≢ pos 0 = subst (λ x. value (function_of functions k) x ≢ pos 0)
    (sym (c.index-points-far.is ∙ get_or_default points c.args.far _ _ c.requires.far)) c.requires.nonzero in
    let own : c.index.result.now ≡ function_of functions k = c.index.ensures
    ∙ get_or_default functions k _ _ (let count = simplex.facing.function_count in let place = c.requires.place in omega arith) in
    rw own (exchange_constant n k points corners functions p simplex sized c.requires.place reached nonzero k c.requires.place)

pub axes_at-axis-requires-clause-entries : goal.axes_at-axis-requires-clause-entries
axes_at-axis-requires-clause-entries c =
    let points = c.args.points.now in
    let n = dimension_of points in
    let k = c.args.place in
    let functions = c.args.functions.now.items in
    let corners = c.args.corners.now.items in
    let p = c.index-points-far.result in
    let simplex = c.requires.simplex in
    let sized = c.requires.points.sized.within in
    let reached : IsReachedBy n points p = point_reached n points p c.requires.points.sized.are_points.one_dimension
    (c.args.far, c.requires.far, sym c.index-points-far.is) in
    let nonzero : value (function_of functions k) p ≢ pos 0 = subst (λ x. value (function_of functions k) x ≢ pos 0)
    (sym (c.index-points-far.is ∙ get_or_default points c.args.far _ _ c.requires.far)) c.requires.nonzero in
    let own : c.index.result.now ≡ function_of functions k = c.index.ensures
    ∙ get_or_default functions k _ _ (let count = simplex.facing.function_count in let place = c.requires.place in omega arith) in
    rw own (exchange_entries n k points corners functions p simplex sized c.requires.place reached nonzero k c.requires.place)

pub axes_at-axis-requires-clause-primitive : goal.axes_at-axis-requires-clause-primitive
axes_at-axis-requires-clause-primitive c =
    let points = c.args.points.now in
    let n = dimension_of points in
    let k = c.args.place in
    let functions = c.args.functions.now.items in
    let corners = c.args.corners.now.items in
    let p = c.index-points-far.result in
    let simplex = c.requires.simplex in
    let sized = c.requires.points.sized.within in
    let reached : IsReachedBy n points p = point_reached n points p c.requires.points.sized.are_points.one_dimension
    (c.args.far, c.requires.far, sym c.index-points-far.is) in
    let nonzero : value (function_of functions k) p ≢ pos 0 = subst (λ x. value (function_of functions k) x ≢ pos 0)
    (sym (c.index-points-far.is ∙ get_or_default points c.args.far _ _ c.requires.far)) c.requires.nonzero in
    let own : c.index.result.now ≡ function_of functions k = c.index.ensures
    ∙ get_or_default functions k _ _ (let count = simplex.facing.function_count in let place = c.requires.place in omega arith) in
    rw own (simplex.facing.primitive k c.requires.place)

pub axes_at-axis-requires-clause-small : goal.axes_at-axis-requires-clause-small
axes_at-axis-requires-clause-small c =
    let points = c.args.points.now in
    let n = dimension_of points in
    let k = c.args.place in
    let functions = c.args.functions.now.items in
    let corners = c.args.corners.now.items in
    let p = c.index-points-far.result in
    let simplex = c.requires.simplex in
    let sized = c.requires.points.sized.within in
    let reached : IsReachedBy n points p = point_reached n points p c.requires.points.sized.are_points.one_dimension
    (c.args.far, c.requires.far, sym c.index-points-far.is) in
    let nonzero : value (function_of functions k) p ≢ pos 0 = subst (λ x. value (function_of functions k) x ≢ pos 0)
    (sym (c.index-points-far.is ∙ get_or_default points c.args.far _ _ c.requires.far)) c.requires.nonzero in
    let own : c.index.result.now ≡ function_of functions k = c.index.ensures
    ∙ get_or_default functions k _ _ (let count = simplex.facing.function_count in let place = c.requires.place in omega arith) in
    rw own (exchange_function n k points corners functions p simplex sized c.requires.place reached nonzero k c.requires.place)

pub turned-requires : goal.turned-requires
turned-requires c =
    let points = c.args.points.now in
    let n = dimension_of points in
    let k = c.args.place in
    let functions = c.args.functions.now.items in
    let corners = c.args.corners.now.items in
    let p = c.index-points-far.result in
    let simplex = c.requires.simplex in
    let sized = c.requires.points.sized.within in
    let reached : IsReachedBy n points p = point_reached n points p c.requires.points.sized.are_points.one_dimension
    (c.args.far, c.requires.far, sym c.index-points-far.is) in
    let nonzero : value (function_of functions k) p ≢ pos 0 = subst (λ x. value (function_of functions k) x ≢ pos 0)
    (sym (c.index-points-far.is ∙ get_or_default points c.args.far _ _ c.requires.far)) c.requires.nonzero in
    let own : c.index.result.now ≡ function_of functions k = c.index.ensures
    ∙ get_or_default functions k _ _ (let count = simplex.facing.function_count in let place = c.requires.place in omega arith) in
    let i = c.loop-i.i in
    let below : i < n + 1 = (let count = simplex.facing.function_count in let all = c.loop-i.invariant.count in omega arith) in
    let here : c.index-then-i-place.result.now ≡ function_of functions i = c.index-then-i-place.ensures
    ∙ get_or_default c.loop-i.functions.items i _ _ (let all = c.loop-i.invariant.count in omega arith) ∙ c.loop-i.invariant.rest i (omega arith) in
    rw here (turnable n k points corners functions p simplex sized c.requires.place reached nonzero i c.axes_at-axis.result.0
    c.axes_at-axis.result.1 below c.if-i-place.true (rw own at c.axes_at-axis.ensures))

pub loop-i-init : goal.loop-i-init
loop-i-init c = none_turned _ c.args.place c.args.functions.now.items c.index-points-far.result c.axes_at-axis.result.0
    c.requires.simplex.facing.function_count

pub loop-i-preserved : goal.loop-i-preserved
loop-i-preserved c =
    let n = dimension_of c.args.points.now in
    let k = c.args.place in
    let i = c.loop-i.i in
    let functions = c.args.functions.now.items in
    let p = c.index-points-far.result in
    let axis = c.axes_at-axis.result.0 in
    let below : i < n + 1 = (let all = c.loop-i.invariant.count in omega arith) in
    elim c.if-i-place.branch [
      | then-i-place w ↦
          let here : w.index-then-i-place.result.now ≡ function_of functions i = w.index-then-i-place.ensures
          ∙ get_or_default c.loop-i.functions.items i _ _ (let all = c.loop-i.invariant.count in omega arith)
          ∙ c.loop-i.invariant.rest i (omega arith) in
          one_turned n k i functions c.loop-i.functions.items c.if-i-place.functions.items p axis w.turned.result below w.if-i-place.true
          (subst (λ (f : Affine). IsTurned f axis p w.turned.result) here w.turned.ensures) (ap (λ v. v.items) w.functions-is)
          c.loop-i.invariant
      | else-i-place w ↦ subst (λ (fs : List Affine). IsTurnedBelow n k (i + 1) functions fs p axis) (sym (ap (λ v. v.items) w.functions-is))
          (own_skipped n k i functions c.loop-i.functions.items p axis w.if-i-place.false c.loop-i.invariant)
    ]

pub returns-clause-simplex : goal.returns-clause-simplex
returns-clause-simplex c =
    let points = c.args.points.now in
    let n = dimension_of points in
    let k = c.args.place in
    let functions = c.args.functions.now.items in
    let corners = c.args.corners.now.items in
    let p = c.index-points-far.result in
    let simplex = c.requires.simplex in
    let sized = c.requires.points.sized.within in
    let reached : IsReachedBy n points p = point_reached n points p c.requires.points.sized.are_points.one_dimension
    (c.args.far, c.requires.far, sym c.index-points-far.is) in
    let nonzero : value (function_of functions k) p ≢ pos 0 = subst (λ x. value (function_of functions k) x ≢ pos 0)
    (sym (c.index-points-far.is ∙ get_or_default points c.args.far _ _ c.requires.far)) c.requires.nonzero in
    let own : c.index.result.now ≡ function_of functions k = c.index.ensures
    ∙ get_or_default functions k _ _ (let count = simplex.facing.function_count in let place = c.requires.place in omega arith) in
    rw c.copied.ensures (exchanged_simplex n k points corners functions p simplex sized c.requires.place reached nonzero c.loop-i.functions.items
    (set c.loop-i.functions.items k c.axes_at-axis.result.0) c.axes_at-axis.result.0 c.axes_at-axis.result.1 c.loop-i.i
    (let all = c.loop-i.invariant.count in omega arith) (rw own at c.axes_at-axis.ensures) c.loop-i.invariant refl)
