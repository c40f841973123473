use mir.Val.{to_z, of_z}
use Rattle.std.specs.Prelude.{List, ℤ, pos, ◌*ℤ◌, ◌≡◌, ◌<◌, ◌≤◌, ◌+◌, ◌^◌, nat_abs}
use Rattle.std.proofs.Common.{arith, rules, SFits, w64, length, ap, ◌∙◌, length-append}
use Rattle.std.proofs.lemmas.Int.{ints, to_z-of_z}
use Rattle.point_scan.specs.ScanSteps.{IsDilateSpan}
use Rattle.lattice_core.specs.Dimensions.{dimension_of}
use Rattle.point_scan.proofs.Reaches.{product_fits, spans_more}
use Rattle.point_scan.proofs.corners.corners_of.Goals as goal
use Rattle.lattice_core.specs.Limits.{IsSized}
use Rattle.lattice_core.proofs.Dimension.{dimension_first}
use Rattle.lattice_core.proofs.SizeLimits.{limit_bound}
use Rattle.lattice_theory.specs.Size.{size}

-- points within the limit have a size of at most 2^30
small_size : (points : List (List ℤ)) → IsSized (dimension_of points) points → size (dimension_of points) points ≤ 2 ^ 30
small_size points h = omega (arith, limit_bound (dimension_of points))

pub overflow_mul-factor : goal.overflow_mul-factor
overflow_mul-factor c =
    let factor_fits : SFits w64 c.from-factor.result = search rules in
    let low_fits : SFits w64 c.span_of-span.result.low = search rules in
    let factor : nat_abs c.from-factor.result ≤ 7 = omega (arith, ints) in
    let first = dimension_first c.args.points.now c.index-points-0.result c.requires.points.are_points.some c.index-points-0.is in
    let place : c.loop-i.i < dimension_of c.args.points.now = omega (arith, first) in
    simp to_z-of_z (product_fits c.args.points.now (dimension_of c.args.points.now) c.loop-i.i c.from-factor.result
    c.span_of-span.result.low place (small_size c.args.points.now c.requires.points.within) factor c.span_of-span.ensures.small_low)

pub overflow_mul-factor-in-loop-i : goal.overflow_mul-factor-in-loop-i
overflow_mul-factor-in-loop-i c =
    let factor_fits : SFits w64 c.from-factor.result = search rules in
    let high_fits : SFits w64 c.span_of-span.result.high = search rules in
    let factor : nat_abs c.from-factor.result ≤ 7 = omega (arith, ints) in
    let first = dimension_first c.args.points.now c.index-points-0.result c.requires.points.are_points.some c.index-points-0.is in
    let place : c.loop-i.i < dimension_of c.args.points.now = omega (arith, first) in
    simp to_z-of_z (product_fits c.args.points.now (dimension_of c.args.points.now) c.loop-i.i c.from-factor.result
    c.span_of-span.result.high place (small_size c.args.points.now c.requires.points.within) factor c.span_of-span.ensures.small_high)

pub loop-i-preserved : goal.loop-i-preserved
loop-i-preserved c =
    let points = c.args.points.now in
    let factor_fits : SFits w64 c.from-factor.result = search rules in
    let low_fits : SFits w64 c.span_of-span.result.low = search rules in
    let high_fits : SFits w64 c.span_of-span.result.high = search rules in
    let factor : nat_abs c.from-factor.result ≤ 7 = omega (arith, ints) in
    let first = dimension_first points c.index-points-0.result c.requires.points.are_points.some c.index-points-0.is in
    let place : c.loop-i.i < dimension_of points = omega (arith, first) in
    let span = c.span_of-span.ensures in
    let lowest : SFits w64 (c.from-factor.result *ℤ c.span_of-span.result.low) =
    product_fits points (dimension_of points) c.loop-i.i c.from-factor.result c.span_of-span.result.low place
    (small_size c.args.points.now c.requires.points.within) factor span.small_low in
    let highest : SFits w64 (c.from-factor.result *ℤ c.span_of-span.result.high) =
    product_fits points (dimension_of points) c.loop-i.i c.from-factor.result c.span_of-span.result.high place
    (small_size c.args.points.now c.requires.points.within) factor span.small_high in
    let low = to_z w64 (of_z w64 (to_z w64 (of_z w64 c.from-factor.result) *ℤ to_z w64 (of_z w64 c.span_of-span.result.low))) in
    let high = to_z w64 (of_z w64 (to_z w64 (of_z w64 c.from-factor.result) *ℤ to_z w64 (of_z w64 c.span_of-span.result.high))) in
    let low_is : low ≡ pos c.args.dilate *ℤ c.span_of-span.result.low =
    simp to_z-of_z (ap (λ (z : ℤ). z *ℤ c.span_of-span.result.low) c.from-factor.ensures) in
    let high_is : high ≡ pos c.args.dilate *ℤ c.span_of-span.result.high =
    simp to_z-of_z (ap (λ (z : ℤ). z *ℤ c.span_of-span.result.high) c.from-factor.ensures) in
    let last : IsDilateSpan points c.args.dilate c.loop-i.i low high = record {
      lowest = c.span_of-span.result.low;
      highest = c.span_of-span.result.high;
      spans = span;
      low_is = low_is;
      high_is = high_is;
    } in
    let i = c.loop-i.invariant in
    record {
      low_dimension = simp length-append at (ap length c.push.ensures.items) ∙ ap (λ n. n + 1) i.low_dimension;
      high_dimension = simp length-append at (ap length c.push-in-loop-i.ensures.items) ∙ ap (λ n. n + 1) i.high_dimension;
      spans = rw (c.push.ensures.items, c.push-in-loop-i.ensures.items)
          (spans_more points c.args.dilate c.loop-i.i c.loop-i.low.items c.loop-i.high.items low high i.low_dimension i.high_dimension
          i.spans last);
    }
