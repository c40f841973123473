use Rattle.std.specs.Prelude.{pos, ◌+ℤ◌, ◌-ℤ◌, ◌*ℤ◌}
use Rattle.std.proofs.Common.{SFits, rules, arith}
use Rattle.std.specs.Int.{w128}
use Rattle.std.proofs.lemmas.Int.{ints, to_z-of_z}
use Rattle.lattice_core.proofs.Widths.{small_fits}
use Rattle.batyrev.proofs.line.fourfold_euler.Goals as goal

pub returns : goal.returns
returns c =
    let a = c.requires.h11 in
    let b = c.requires.h31 in
    let d = c.requires.h21 in
    let h11 : SFits w128 c.args.h11 = search rules in
    let h31 : SFits w128 c.args.h31 = search rules in
    let h21 : SFits w128 c.args.h21 = search rules in
    let first : SFits w128 (pos 8 +ℤ c.args.h11) = small_fits _ (omega (arith, ints)) in
    let second : SFits w128 (pos 8 +ℤ c.args.h11 +ℤ c.args.h31) = small_fits _ (omega (arith, ints)) in
    let third : SFits w128 (pos 8 +ℤ c.args.h11 +ℤ c.args.h31 -ℤ c.args.h21) = small_fits _ (omega (arith, ints)) in
    let whole : SFits w128 (pos 6 *ℤ (pos 8 +ℤ c.args.h11 +ℤ c.args.h31 -ℤ c.args.h21)) = small_fits _ (omega (arith, ints)) in
    simp to_z-of_z
