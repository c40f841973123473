use Rattle.std.proofs.Common.{SFits, rules}
use Rattle.std.specs.Int.{w128}
use Rattle.std.proofs.lemmas.Int.{to_z-of_z}
use Rattle.batyrev.proofs.PairNumbers.{threefold_numbers}
use Rattle.batyrev.proofs.line.threefold.Goals as goal

pub returns : goal.returns
returns c =
    let h11 : SFits w128 c.divisors-h11.result = search rules in
    let h21 : SFits w128 c.deformations-h21.result = search rules in
    let euler : SFits w128 c.threefold_euler-euler.result = search rules in
    let value = simp to_z-of_z at c.threefold_euler-euler.ensures in
    simp to_z-of_z (threefold_numbers c.args.pair.now.m c.args.table.now c.requires.table c.args.inner.now c.args.outer.now c.requires.inner
    c.requires.outer c.divisors-h11.result c.deformations-h21.result c.threefold_euler-euler.result c.requires.dim
    c.divisors-h11.ensures.value c.deformations-h21.ensures.value value)
