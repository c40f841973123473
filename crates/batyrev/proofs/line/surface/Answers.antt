use Rattle.std.proofs.Common.{SFits, rules}
use Rattle.std.specs.Int.{w128}
use Rattle.std.proofs.lemmas.Int.{to_z-of_z}
use Rattle.batyrev.proofs.PairNumbers.{surface_numbers}
use Rattle.batyrev.proofs.line.surface.Goals as goal

pub returns : goal.returns
returns c =
    let pic : SFits w128 c.divisors-pic.result = search rules in
    let cor : SFits w128 c.from-cor.result = search rules in
    simp to_z-of_z (surface_numbers c.args.pair.now.m c.args.table.now c.requires.table c.args.inner.now c.args.outer.now c.requires.inner
    c.requires.outer c.divisors-pic.result c.from-cor.result c.product_sum.result c.requires.dim c.divisors-pic.ensures.value
    (c.product_sum.ensures.sum c.args.pair.now.m c.requires.table) c.from-cor.ensures)
