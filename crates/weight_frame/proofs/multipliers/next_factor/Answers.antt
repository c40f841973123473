use Rattle.std.proofs.Common.{◌≡◌, ◌*◌, ◌-ℤ◌, ◌*ℤ◌, pos, nat_abs, to_z, SFits, w64, arith}
use Rattle.std.proofs.lemmas.Int.{ints, to_z-of_z, to_z_pos, unsigned_abs-mul, fits_signed_from_abs}
use Rattle.weight_frame.proofs.multipliers.next_factor.Goals as goal

pub returns : goal.returns
returns c =
    let f : SFits w64 c.args.greater_factor = c.ranges.greater_factor in
    let x : SFits w64 c.args.lesser_factor = c.ranges.lesser_factor in
    let quotient : to_z w64 c.args.quotient ≡ pos c.args.quotient = to_z_pos w64 c.args.quotient (omega arith) in
    let size : nat_abs (pos c.args.quotient *ℤ c.args.lesser_factor) ≡ c.args.quotient * nat_abs c.args.lesser_factor =
    unsigned_abs-mul (pos c.args.quotient) c.args.lesser_factor in
    let product : SFits w64 (pos c.args.quotient *ℤ c.args.lesser_factor) = fits_signed_from_abs w64 _ (omega arith) in
    let whole : SFits w64 (c.args.greater_factor -ℤ pos c.args.quotient *ℤ c.args.lesser_factor) =
    fits_signed_from_abs w64 _ (omega (arith, ints)) in
    simp (to_z-of_z, quotient)
