use mir.Val.{to_z, of_z}
use mir.Syntax.{w128}
use Rattle.std.specs.Prelude.{nat_abs}
use Rattle.std.proofs.Common.{◌≡◌, ◌^◌, ◌≤◌, arith}
use Rattle.std.proofs.lemmas.Int.{ints}
use Rattle.region_walk.proofs.Quotients.{value_exact}
use Rattle.region_walk.proofs.spans.value_with.Goals as goal

pub returns : goal.returns
returns c =
    let slope_is : to_z w128 (of_z w128 c.from.result) ≡ c.args.slope = omega (arith, ints) in
    let value_is : to_z w128 (of_z w128 c.from-2.result) ≡ c.args.value = omega (arith, ints) in
    let rest_is : to_z w128 (of_z w128 c.args.rest) ≡ c.args.rest = omega (arith, ints) in
    let slope_small : nat_abs c.args.slope ≤ 2 ^ 63 = omega (arith, ints) in
    let value_small : nat_abs c.args.value ≤ 2 ^ 63 = omega (arith, ints) in
    rw (slope_is, value_is, rest_is) (value_exact c.args.slope c.args.value c.args.rest slope_small value_small c.requires)
