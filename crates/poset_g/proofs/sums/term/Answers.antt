use Rattle.std.proofs.Common.{rules, SFits, ◌≡◌, ◌+◌, ◌-◌, ◌+ℤ◌, ◌*ℤ◌, ℤ, to_z, ap, ◌∙◌, arith}
use Rattle.std.specs.Int.{w64}
use Rattle.std.proofs.lemmas.Int.{to_z-of_z}
use Rattle.lattice_theory.specs.Vector.{entry}
use Rattle.polynomial_theory.specs.Series.{product, power, t_minus_1}
use Rattle.small_poly.proofs.Products.{sum_begins}
use Rattle.polynomial_theory.proofs.Splits.{so_far}
use Rattle.poset_g.proofs.Terms.{more_size}
use Rattle.poset_g.proofs.sums.term.Goals as goal
use Rattle.poset_g.proofs.sums.term.Goals.{After-product_of-sum}

pub loop-a-init : goal.loop-a-init
loop-a-init c = record {
  sum = sum_begins c.args.degree (λ a b. power t_minus_1 c.args.n a *ℤ entry c.args.values.now (c.args.first + b));
  size = omega arith;
}

product_is : (c : After-product_of-sum) → c.product_of-sum.result ≡ power t_minus_1 c.args.n c.loop-a.a *ℤ entry c.args.values.now (c.args.first +
    (c.args.degree - c.loop-a.a))
product_is c =
    let first : SFits w64 c.power_of.result = search rules in
    let second : SFits w64 (entry c.args.values.now (c.args.first + (c.args.degree - c.loop-a.a))) = search rules in
    let e = simp to_z-of_z at c.product_of-sum.ensures.value in
    e ∙ ap (λ (z : ℤ). z *ℤ entry c.args.values.now (c.args.first + (c.args.degree - c.loop-a.a))) c.power_of.ensures.value

pub loop-a-preserved : goal.loop-a-preserved
loop-a-preserved c =
    let fits : SFits w64 c.product_of-sum.result = search rules in
    let total : SFits w64 (to_z w64 c.loop-a.sum-bits +ℤ c.product_of-sum.result) = search rules in
    record {
      sum = simp to_z-of_z (so_far (c.args.degree + 1) c.loop-a.a (λ a. power t_minus_1 c.args.n a *ℤ entry c.args.values.now (c.args.first + (c.args.degree - a)))
          (to_z w64 c.loop-a.sum-bits) c.product_of-sum.result (product (power t_minus_1 c.args.n) (λ b. entry c.args.values.now (c.args.first + b)) c.args.degree)
          c.loop-a-test.true (product_is c) c.loop-a.invariant.sum);
      size = simp to_z-of_z (more_size (to_z w64 c.loop-a.sum-bits) c.product_of-sum.result c.loop-a.a c.loop-a.invariant.size c.product_of-sum.ensures.size);
    }
