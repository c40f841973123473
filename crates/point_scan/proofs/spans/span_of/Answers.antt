use mir.Syntax.{w64}
use mir.Val.{to_z, of_z}
use Rattle.std.proofs.Common.{◌≤◌, ◌≤ℤ◌, nat_abs, arith, subst}
use Rattle.std.specs.Prelude.{List, ℤ}
use Rattle.std.specs.List.{All}
use Rattle.std.proofs.lemmas.Int.{ints, clamps}
use Rattle.std.proofs.lemmas.List.{take_all}
use Rattle.lattice_theory.specs.Vector.{entry}
use Rattle.lattice_theory.specs.Size.{reach}
use Rattle.point_scan.proofs.Reaches.{within_reach_at, span_more}
use Rattle.point_scan.proofs.spans.span_of.Goals as goal

pub loop-point-preserved : goal.loop-point-preserved
loop-point-preserved c =
    let i = c.loop-point.invariant in
    let points = c.args.points.now in
    let p = c.point-item.result in
    let e = c.entry-entry.ensures in
    let reached : nat_abs (entry p c.args.i) ≤ reach points c.args.i =
    within_reach_at points c.loop-point.point-index c.args.i p c.loop-point-test.true c.point-item.is in
    let low = to_z w64 c.loop-point.low-bits in
    let high = to_z w64 c.loop-point.high-bits in
    let low' = to_z w64 (of_z w64 c.min-low.result) in
    let high' = to_z w64 (of_z w64 c.max-high.result) in
    let lower : low' ≤ℤ low = omega (arith, ints, clamps, c.min-low.ensures.value) in
    let p_low : low' ≤ℤ entry p c.args.i = omega (arith, ints, clamps, c.min-low.ensures.value, e) in
    let upper : high ≤ℤ high' = omega (arith, ints, clamps, c.max-high.ensures.value) in
    let p_high : entry p c.args.i ≤ℤ high' = omega (arith, ints, clamps, c.max-high.ensures.value, e) in
    record {
      within = span_more points c.args.i c.loop-point.point-index p low high low' high' c.loop-point-test.true c.point-item.is i.within
          lower upper p_low p_high;
      ordered = omega (arith, ints, p_low, p_high);
      small_low = omega (arith, ints, clamps, c.min-low.ensures.value, e, reached, i.small_low);
      small_high = omega (arith, ints, clamps, c.max-high.ensures.value, e, reached, i.small_high);
    }

pub returns : goal.returns
returns c =
    let i = c.loop-point.invariant in
    record {
      within = let spans : List (List ℤ)
          → Type 0 = λ ps. All (λ p. (to_z w64 c.loop-point.low-bits ≤ℤ entry p c.args.i)
          × (entry p c.args.i ≤ℤ to_z w64 c.loop-point.high-bits)) ps in
          subst spans (take_all c.loop-point.point-index c.args.points.now c.loop-point-test.false) i.within;
      ordered = i.ordered;
      small_low = i.small_low;
      small_high = i.small_high;
    }
