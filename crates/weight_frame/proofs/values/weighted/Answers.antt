use Rattle.std.proofs.Common.{◌≡◌, ◌≤◌, ◌*◌, ◌*ℤ◌, pos, nat_abs, to_z, SFits, w64, rules, arith}
use Rattle.std.proofs.lemmas.Int.{to_z-of_z, to_z_pos, fits_signed_from_abs}
use Rattle.lattice_core.specs.declared.limits.TheConstants.{MOST_FRAME_ENTRY}
use Rattle.weight_frame.proofs.ValueSteps.{product_size}
use Rattle.weight_frame.proofs.values.weighted.Goals as goal

pub returns-clause-bound : goal.returns-clause-bound
returns-clause-bound c =
    let x : SFits w64 c.args.entry = search rules in
    let weight : to_z w64 c.args.weight ≡ pos c.args.weight = to_z_pos w64 c.args.weight (omega arith) in
    let size : nat_abs (pos c.args.weight *ℤ c.args.entry) ≤ MOST_FRAME_ENTRY * c.args.weight =
    product_size c.args.weight c.args.entry MOST_FRAME_ENTRY c.requires.entry in
    let whole : SFits w64 (pos c.args.weight *ℤ c.args.entry) = fits_signed_from_abs w64 _ (omega arith) in
    simp (to_z-of_z, weight) size
