use Rattle.std.proofs.Common.{◌^◌, ◌+ℤ◌, SFits, w64, rules, arith, ap₂}
use Rattle.std.specs.Int.{w128}
use Rattle.std.proofs.lemmas.Int.{to_z-of_z}
use Rattle.weight_frame.proofs.Bounds.{sum_bound}
use Rattle.weight_frame.proofs.multiples.entry_sum.Goals as goal
use Rattle.lattice_core.proofs.Widths.{small_fits}

pub returns-clause-value : goal.returns-clause-value
returns-clause-value c =
    let p : SFits w128 c.args.p = search rules in
    let q : SFits w128 c.args.q = search rules in
    let a : SFits w64 c.args.a = search rules in
    let b : SFits w64 c.args.b = search rules in
    let first = simp to_z-of_z at c.product.ensures.value in
    let second = simp to_z-of_z at c.product-2.ensures.value in
    let left : SFits w128 c.product.result = small_fits _ (omega (arith, c.product.ensures.bound)) in
    let right : SFits w128 c.product-2.result = small_fits _ (omega (arith, c.product-2.ensures.bound)) in
    let whole : SFits w128 (c.product.result +ℤ c.product-2.result) =
    small_fits _ (omega (
      arith,
      sum_bound c.product.result c.product-2.result (2 ^ 95) (2 ^ 95) c.product.ensures.bound
          c.product-2.ensures.bound,
    )) in
    simp to_z-of_z (ap₂ (λ x y. x +ℤ y) first second)
