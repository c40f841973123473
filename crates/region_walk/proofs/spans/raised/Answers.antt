use mir.Val.{to_z, of_z}
use mir.Syntax.{w128}
use Rattle.std.specs.Prelude.{ℤ, pos, ◌+ℤ◌, ◌*ℤ◌, ◌≤ℤ◌}
use Rattle.std.proofs.Common.{◌≡◌, arith, w64}
use Rattle.std.proofs.lemmas.Int.{ints}
use Rattle.region_walk.proofs.Quotients.{span_from}
use Rattle.region_walk.proofs.spans.raised.Goals as goal
use Rattle.region_walk.proofs.spans.raised.Goals.{After-least_value-least}

-- what the bound is
means : (c : After-least_value-least) → (v : ℤ) → (c.least_value-least.result ≤ℤ v → pos 0 ≤ℤ (c.args.slope *ℤ v +ℤ c.args.rest))
    × (pos 0 ≤ℤ (c.args.slope *ℤ v +ℤ c.args.rest) → c.least_value-least.result ≤ℤ v)
means c v =
    let slope_is : to_z w64 (of_z w64 c.args.slope) ≡ c.args.slope = omega (arith, ints) in
    let rest_is : to_z w128 (of_z w128 c.args.rest) ≡ c.args.rest = omega (arith, ints) in
    rw (slope_is, rest_is) at (c.least_value-least.ensures v)

pub returns-then-least-from-2-clause-some : goal.returns-then-least-from-2-clause-some
returns-then-least-from-2-clause-some c =
    let least = c.least_value-least.result in
    let least_is : to_z w64 (of_z w64 (to_z w128 (of_z w128 least))) ≡ least = omega (arith, ints) in
    let high_is : to_z w64 (of_z w64 c.args.span.high) ≡ c.args.span.high = omega (arith, ints) in
    rw (least_is, high_is) (span_from least c.args.span.low c.args.span.high (λ v. pos 0 ≤ℤ (c.args.slope *ℤ v +ℤ c.args.rest))
    (means (goal.at.returns-then-least-from-2-clause-some c).After-least_value-least) (omega (arith, ints)))

pub returns-else-least-from-2-clause-none : goal.returns-else-least-from-2-clause-none
returns-else-least-from-2-clause-none c = λ v b h. let above = (means (goal.at.returns-else-least-from-2-clause-none c).After-least_value-least v).1 h in
    let below = b.1 in
    omega (arith, ints)
