use Rattle.std.proofs.Common.{rules, SFits, ◌*ℤ◌, arith}
use Rattle.std.specs.Int.{w64}
use Rattle.std.proofs.lemmas.Int.{to_z-of_z, fits_signed_from_abs}
use Rattle.stringy.proofs.Coefficients.{factors_small}
use Rattle.stringy.proofs.rows.product_of.Goals as goal

pub returns-clause-value : goal.returns-clause-value
returns-clause-value c =
    let first : SFits w64 c.args.first = search rules in
    let second : SFits w64 c.args.second = search rules in
    let small = factors_small c.args.first c.args.second c.requires.first c.requires.second in
    let both : SFits w64 (c.args.first *ℤ c.args.second) = fits_signed_from_abs w64 (c.args.first *ℤ c.args.second) (omega arith) in
    simp to_z-of_z

pub returns-clause-small : goal.returns-clause-small
returns-clause-small c =
    let first : SFits w64 c.args.first = search rules in
    let second : SFits w64 c.args.second = search rules in
    let small = factors_small c.args.first c.args.second c.requires.first c.requires.second in
    let both : SFits w64 (c.args.first *ℤ c.args.second) = fits_signed_from_abs w64 (c.args.first *ℤ c.args.second) (omega arith) in
    simp to_z-of_z small
