use mir.Syntax.{w64}
use mir.Val.{to_z}
use Rattle.std.proofs.Common.{◌≡◌, ◌+◌, ◌≤◌, get_or, pos, arith, suc}
use Rattle.std.proofs.lemmas.Int.{ints}
use Rattle.lattice_core.specs.declared.limits.TheConstants.{MOST_DEGREE}
use Rattle.weight_points.proofs.Writing.{over_more}
use Rattle.weight_points.proofs.monomials.write.Goals as goal

pub loop-i-preserved : goal.loop-i-preserved
loop-i-preserved c =
    let exponents = c.args.exponents.now in
    let i = c.loop-i.i in
    let small : get_or exponents i 0 ≤ MOST_DEGREE = c.requires.small i 0 c.loop-i-test.true in
    let value : to_z w64 (get_or exponents i 0) ≡ pos (get_or exponents i 0) = omega (arith, ints) in
    let next : i + 1 ≡ suc i = omega arith in
    rw (value, c.loop-i.invariant, next) (over_more pos exponents c.args.out.now i 0 c.loop-i-test.true c.requires.columns)
