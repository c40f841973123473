use Rattle.std.proofs.Common.{◌≡◌, pos, to_z, SFits, w64, arith}
use Rattle.std.specs.Int.RustNames.{int_div}
use Rattle.std.proofs.lemmas.Int.{ints, to_z-of_z, to_z_pos, quot_fits}
use Rattle.weight_frame.proofs.multipliers.quotient.Goals as goal

pub returns : goal.returns
returns c =
    let fits : SFits w64 c.args.value = c.ranges.value in
    let divisor : to_z w64 c.args.divisor ≡ pos c.args.divisor = to_z_pos w64 c.args.divisor (omega arith) in
    let quotient_fits : SFits w64 (int_div c.args.value (pos c.args.divisor)) =
    quot_fits w64 c.args.value (pos c.args.divisor) fits (omega (arith, ints)) in
    simp (to_z-of_z, divisor)
