use Rattle.std.proofs.Common.{◌≡◌, pos, to_z, SFits, arith}
use Rattle.std.specs.Int.{w128}
use Rattle.std.specs.Int.RustNames.{int_div}
use Rattle.std.proofs.lemmas.Int.{ints, to_z-of_z, to_z_pos, quot_fits}
use Rattle.lattice_core.proofs.CommonDivisors.{exact_quotient}
use Rattle.lattice_core.proofs.divisors.quotient.Goals as goal

pub returns : goal.returns
returns c =
    let fits : SFits w128 c.args.a = c.ranges.a in
    let divisor : to_z w128 c.args.divisor ≡ pos c.args.divisor = to_z_pos w128 c.args.divisor c.requires.bound in
    let quotient_fits : SFits w128 (int_div c.args.a (pos c.args.divisor)) =
    quot_fits w128 c.args.a (pos c.args.divisor) fits (omega (arith, ints)) in
    simp (to_z-of_z, divisor) (exact_quotient c.args.a c.args.divisor c.requires.divides)
