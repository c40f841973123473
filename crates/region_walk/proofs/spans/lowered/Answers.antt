use mir.Val.{to_z, of_z}
use mir.Syntax.{w128}
use Rattle.std.specs.Prelude.{ℤ, pos, ◌+ℤ◌, ◌*ℤ◌, ◌≤ℤ◌}
use Rattle.std.proofs.Common.{◌≡◌, arith, w64}
use Rattle.std.proofs.lemmas.Int.{ints}
use Rattle.region_walk.proofs.Quotients.{span_to}
use Rattle.region_walk.proofs.spans.lowered.Goals as goal
use Rattle.region_walk.proofs.spans.lowered.Goals.{After-most_value-most}

-- what the bound is
means : (c : After-most_value-most) → (v : ℤ) → (v ≤ℤ c.most_value-most.result → pos 0 ≤ℤ (c.args.slope *ℤ v +ℤ c.args.rest))
    × (pos 0 ≤ℤ (c.args.slope *ℤ v +ℤ c.args.rest) → v ≤ℤ c.most_value-most.result)
means c v =
    let slope_is : to_z w64 (of_z w64 c.args.slope) ≡ c.args.slope = omega (arith, ints) in
    let rest_is : to_z w128 (of_z w128 c.args.rest) ≡ c.args.rest = omega (arith, ints) in
    rw (slope_is, rest_is) at (c.most_value-most.ensures v)

pub returns-then-most-from-2-clause-some : goal.returns-then-most-from-2-clause-some
returns-then-most-from-2-clause-some c =
    let most = c.most_value-most.result in
    let most_is : to_z w64 (of_z w64 (to_z w128 (of_z w128 most))) ≡ most = omega (arith, ints) in
    let low_is : to_z w64 (of_z w64 c.args.span.low) ≡ c.args.span.low = omega (arith, ints) in
    rw (most_is, low_is) (span_to most c.args.span.low c.args.span.high (λ v. pos 0 ≤ℤ (c.args.slope *ℤ v +ℤ c.args.rest))
    (means (goal.at.returns-then-most-from-2-clause-some c).After-most_value-most) (omega (arith, ints)))
