use Rattle.std.proofs.Common.{SFits, rules}
use Rattle.std.specs.Int.{w128}
use Rattle.std.proofs.lemmas.Int.{to_z-of_z}
use Rattle.batyrev.proofs.PairNumbers.{fourfold_numbers}
use Rattle.batyrev.proofs.line.fourfold.Goals as goal

pub returns : goal.returns
returns c =
    let h11 : SFits w128 c.divisors-h11.result = search rules in
    let h31 : SFits w128 c.deformations-h31.result = search rules in
    let h21 : SFits w128 c.from-h21.result = search rules in
    let euler : SFits w128 c.fourfold_euler-euler.result = search rules in
    let value = simp to_z-of_z at c.fourfold_euler-euler.ensures in
    simp to_z-of_z (fourfold_numbers c.args.pair.now.m c.args.table.now c.requires.table c.args.inner.now c.args.outer.now c.requires.inner
    c.requires.outer c.divisors-h11.result c.from-h21.result c.deformations-h31.result c.fourfold_euler-euler.result c.product_sum.result
    c.requires.dim c.divisors-h11.ensures.value c.deformations-h31.ensures.value (c.product_sum.ensures.sum c.args.pair.now.m c.requires.table)
    c.from-h21.ensures value)
