use mir.Val.{to_z, of_z}
use mir.Syntax.{w128}
use Rattle.std.specs.Prelude.{ℤ, pos, ◌*ℤ◌, ◌-ℤ◌, ◌≤ℤ◌, ◌^◌}
use Rattle.std.proofs.Common.{◌≡◌, arith}
use Rattle.std.proofs.lemmas.Int.{ints}
use Rattle.region_walk.proofs.Quotients.{quotient_above, rising_from}
use Rattle.region_walk.proofs.spans.least_value.Goals as goal
use Rattle.region_walk.proofs.spans.least_value.Goals.{After-floor_quotient}

-- what the quotient is
means : (c : After-floor_quotient) → (v : ℤ) → ((c.args.slope *ℤ v) ≤ℤ c.args.rest → v ≤ℤ c.floor_quotient.result)
    × (v ≤ℤ c.floor_quotient.result → (c.args.slope *ℤ v) ≤ℤ c.args.rest)
means c v =
    let slope_is : to_z w128 (of_z w128 c.from.result) ≡ c.args.slope = omega (arith, ints) in
    let rest_is : to_z w128 (of_z w128 c.args.rest) ≡ c.args.rest = omega (arith, ints) in
    rw (slope_is, rest_is) at (c.floor_quotient.ensures v)

pub overflow_sub-result : goal.overflow_sub-result
overflow_sub-result c =
    let above = quotient_above c.args.rest c.args.slope c.floor_quotient.result (2 ^ 104) c.requires.rising c.requires.small (means c) in
    omega (arith, ints)

pub returns : goal.returns
returns c =
    let above = quotient_above c.args.rest c.args.slope c.floor_quotient.result (2 ^ 104) c.requires.rising c.requires.small
    (means (goal.at.returns c).After-floor_quotient) in
    let least_is : to_z w128 (of_z w128 (pos 0 -ℤ to_z w128 (of_z w128 c.floor_quotient.result))) ≡ pos 0 -ℤ c.floor_quotient.result =
    omega (arith, ints) in
    rising_from c.args.slope c.args.rest c.floor_quotient.result _ least_is (means (goal.at.returns c).After-floor_quotient)
