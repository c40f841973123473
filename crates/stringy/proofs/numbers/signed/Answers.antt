use Rattle.std.proofs.Common.{rules, arith, SFits, pos, ◌-ℤ◌}
use Rattle.std.specs.Int.{w128}
use Rattle.std.proofs.lemmas.Int.{ints, to_z-of_z, fits_signed_from_abs}
use Rattle.stringy.proofs.Signs.{signed_even, signed_odd}
use Rattle.stringy.proofs.numbers.signed.Goals as goal

pub returns-then-places-eq0 : goal.returns-then-places-eq0
returns-then-places-eq0 c = let fits : SFits w128 c.args.number = search rules in simp to_z-of_z (signed_even c.args.places c.args.number (omega
    (arith, c.if-places-eq0.true)))

pub returns-else-places-eq0 : goal.returns-else-places-eq0
returns-else-places-eq0 c =
    let fits : SFits w128 c.args.number = search rules in
    let small = c.requires in
    let negative : SFits w128 (pos 0 -ℤ c.args.number) = fits_signed_from_abs w128 (pos 0 -ℤ c.args.number) (omega (arith, ints)) in
    simp to_z-of_z (signed_odd c.args.places c.args.number (omega (arith, c.if-places-eq0.false)))
