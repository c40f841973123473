use mir.Syntax.{w128}
use mir.Val.{to_z, of_z}
use Rattle.std.specs.Prelude.{List, ℤ, pos, ◌^◌, ◌-ℤ◌, ◌≤ℤ◌}
use Rattle.std.specs.List.{All}
use Rattle.std.proofs.Common.{◌≡◌, ◌≤◌, SFits, rules, arith, sym, ap, subst, ◌∙◌}
use Rattle.std.proofs.lemmas.Int.{ints, clamps, to_z-of_z, fits_signed_from_abs}
use Rattle.std.proofs.lemmas.List.{take_all}
use Rattle.lattice_theory.specs.Size.{absolute_sum}
use Rattle.lattice_theory.specs.Vector.{dot}
use Rattle.point_scan.proofs.BoundSteps.{least_more, height_small, bound_is}
use Rattle.point_scan.proofs.bounds.bound_at.Goals as goal

pub loop-i-preserved : goal.loop-i-preserved
loop-i-preserved c =
    let i = c.loop-i.invariant in
    let points = c.args.vertices.now in
    let a = c.args.normal.now in
    let p = c.index-vertices-i.result in
    let light : absolute_sum p ≤ 2 ^ 33 = subst (λ (q : List ℤ). absolute_sum q ≤ 2 ^ 33) (sym c.index-vertices-i.is)
    (c.requires.small c.loop-i.i p c.loop-i-test.true) in
    let light' : absolute_sum c.entries-in-loop-i.result.now ≤ 2 ^ 33 =
    subst (λ (q : List ℤ). absolute_sum q ≤ 2 ^ 33) (sym c.entries-in-loop-i.ensures.value) light in
    let height_is : c.pair-height.result ≡ dot a p = c.pair-height.ensures.value ∙ ap (λ (q : List ℤ). dot a q) c.entries-in-loop-i.ensures.value in
    let small = height_small (absolute_sum c.entries-in-loop-i.result.now) c.pair-height.result c.pair-height.ensures.right light' in
    let fits : SFits w128 c.pair-height.result = search rules in
    let least = to_z w128 c.loop-i.least-bits in
    let new = to_z w128 (of_z w128 c.min-least.result) in
    let lower : new ≤ℤ least = omega (arith, ints, clamps, c.min-least.ensures.value) in
    let last : new ≤ℤ c.pair-height.result = omega (arith, ints, clamps, c.min-least.ensures.value) in
    record {
      below = least_more a points c.loop-i.i p least c.pair-height.result new c.loop-i-test.true c.index-vertices-i.is height_is i.below lower last;
      small = omega (arith, ints, clamps, c.min-least.ensures.value, small, i.small);
    }

pub returns : goal.returns
returns c =
    let i = c.loop-i.invariant in
    let points = c.args.vertices.now in
    let a = c.args.normal.now in
    let least = to_z w128 c.loop-i.least-bits in
    let small = i.small in
    let fits : SFits w128 (pos 0 -ℤ least) = fits_signed_from_abs w128 (pos 0 -ℤ least) (omega (arith, ints, small)) in
    let constant : c.in-Some.function.constant ≡ pos 0 -ℤ least = simp to_z-of_z at c.in-Some.ensures.parts.1 in
    bound_is a points c.in-Some.function least c.in-Some.ensures.parts.0 constant
    (subst (λ (ps : List (List ℤ)). All (λ q. least ≤ℤ dot a q) ps) (take_all c.loop-i.i points c.loop-i-test.false) i.below) small
