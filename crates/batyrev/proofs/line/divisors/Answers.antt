use Rattle.std.proofs.Common.{List, length, ℤ, SFits, rules, ap, ◌∙◌}
use Rattle.std.specs.Int.{w128}
use Rattle.std.proofs.lemmas.Int.{to_z-of_z}
use Rattle.lattice_core.specs.Dimensions.{dimension_of}
use Rattle.dual_pair.specs.Polytopes.{PolytopeState}
use Rattle.batyrev.proofs.PairNumbers.{divisor_number}
use Rattle.batyrev.proofs.line.divisors.Goals as goal

pub returns-clause-value : goal.returns-clause-value
returns-clause-value c =
    let fits : SFits w128 c.number_of.result = search rules in
    simp to_z-of_z (divisor_number c.args.pair.now.m c.args.table.now c.requires.table c.args.inner.now c.args.outer.now c.requires.inner
    c.requires.outer c.args.pair.now.n c.n.ensures.pair.dual (length c.points.result.now) c.dim.result c.count_sum-inside.result
    c.product_sum-products.result c.number_of.result
    (ap (λ (xs : List (List ℤ)). length xs) (c.points.ensures.value ∙ ap (λ (p : PolytopeState). p.points) c.n.ensures.value))
    (c.dim.ensures.value ∙ ap (λ (p : PolytopeState). dimension_of p.vertices) c.m.ensures.value)
    (c.count_sum-inside.ensures.sum c.args.pair.now.m c.requires.table)
    (c.product_sum-products.ensures.sum c.args.pair.now.m c.requires.table) c.number_of.ensures.value)
