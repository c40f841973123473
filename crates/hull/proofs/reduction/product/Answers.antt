use Rattle.std.proofs.Common.{◌≡◌, ◌≤◌, ◌^◌, ◌*ℤ◌, SFits, w64, rules, arith, ap, ◌∙◌}
use Rattle.std.specs.Prelude.{nat_abs}
use Rattle.std.specs.Int.{w128}
use Rattle.std.proofs.lemmas.Int.{ints, to_z-of_z}
use Rattle.hull.proofs.Arithmetic.{product_exact}
use Rattle.hull.proofs.reduction.product.Goals as goal

pub returns : goal.returns
returns c =
    let left : SFits w128 c.args.a = search rules in
    let right : SFits w64 c.args.b = search rules in
    let same : c.from.result ≡ c.args.b = c.from.ensures ∙ to_z-of_z w64 c.args.b right in
    let small : nat_abs c.from.result ≤ 2 ^ 63 = omega (arith, ints) in
    let middle : SFits w128 c.from.result = search rules in
    simp to_z-of_z (product_exact c.args.a c.from.result c.requires small ∙ ap (λ z. c.args.a *ℤ z) same)
