use mir.Val.{to_z, of_z}
use mir.Syntax.{w128}
use Rattle.std.specs.Prelude.{pos, ◌+ℤ◌, ◌*ℤ◌, ◌≤ℤ◌}
use Rattle.std.proofs.Common.{◌≡◌, arith, w64}
use Rattle.std.proofs.lemmas.Int.{ints}
use Rattle.region_walk.proofs.Quotients.{rising_keeps}
use Rattle.region_walk.proofs.spans.cut_from_below.Goals as goal

pub returns-then-value_with-ge0-clause-some : goal.returns-then-value_with-ge0-clause-some
returns-then-value_with-ge0-clause-some c =
    let slope_is : to_z w64 (of_z w64 c.args.slope) ≡ c.args.slope = omega (arith, ints) in
    let rest_is : to_z w128 (of_z w128 c.args.rest) ≡ c.args.rest = omega (arith, ints) in
    let low_is : to_z w64 (of_z w64 c.args.span.low) ≡ c.args.span.low = omega (arith, ints) in
    let value : c.value_with.result ≡ c.args.slope *ℤ c.args.span.low +ℤ c.args.rest =
    rw (slope_is, rest_is, low_is) at c.value_with.ensures in
    let nonnegative : pos 0 ≤ℤ (c.args.slope *ℤ c.args.span.low +ℤ c.args.rest) = omega (arith, ints) in
    rising_keeps c.args.slope c.args.rest c.args.span.low c.args.span.high c.requires.rising nonnegative
