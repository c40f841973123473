use Rattle.std.proofs.Common.{rules, SFits, ◌≡◌, ◌+◌, ◌-◌, ◌+ℤ◌, ◌*ℤ◌, to_z}
use Rattle.std.specs.Int.{w128}
use Rattle.std.proofs.lemmas.Int.{to_z-of_z}
use Rattle.lattice_theory.specs.Vector.{entry}
use Rattle.polynomial_theory.specs.Series.{product}
use Rattle.polynomial_theory.proofs.Splits.{so_far}
use Rattle.small_poly.proofs.Products.{split_term, sum_begins, bound_begins, term_bound, next_bound, sum_fits}
use Rattle.small_poly.proofs.lists.product_coefficient.Goals as goal
use Rattle.small_poly.proofs.lists.product_coefficient.Goals.{After-product_of-sum}

product_is : (c : After-product_of-sum) → c.product_of-sum.result ≡ split_term c.args.a.now c.args.b.now c.args.k c.loop-i.i
product_is c =
    let first : SFits w128 (entry c.args.a.now c.loop-i.i) = search rules in
    let second : SFits w128 (entry c.args.b.now (c.args.k - c.loop-i.i)) = search rules in
    simp to_z-of_z at c.product_of-sum.ensures

pub loop-i-init : goal.loop-i-init
loop-i-init c = record {
  sum = sum_begins c.args.k (λ a b. entry c.args.a.now a *ℤ entry c.args.b.now b);
  bound = bound_begins c.args.k (λ a b. entry c.args.a.now a *ℤ entry c.args.b.now b) (c.requires.small c.args.k);
}

pub product_of-sum-requires : goal.product_of-sum-requires
product_of-sum-requires c =
    let first : SFits w128 (entry c.args.a.now c.loop-i.i) = search rules in
    let second : SFits w128 (entry c.args.b.now (c.args.k - c.loop-i.i)) = search rules in
    simp to_z-of_z (term_bound (c.args.k + 1) c.loop-i.i (split_term c.args.a.now c.args.b.now c.args.k) (to_z w128 c.loop-i.sum-bits) c.loop-i-test.true c.loop-i.invariant.bound)

pub overflow_add-sum : goal.overflow_add-sum
overflow_add-sum c =
    let fits : SFits w128 c.product_of-sum.result = search rules in
    simp to_z-of_z (sum_fits (c.args.k + 1) c.loop-i.i (split_term c.args.a.now c.args.b.now c.args.k) (to_z w128 c.loop-i.sum-bits) c.product_of-sum.result c.loop-i-test.true
    (product_is c) c.loop-i.invariant.bound)

pub loop-i-preserved : goal.loop-i-preserved
loop-i-preserved c =
    let fits : SFits w128 c.product_of-sum.result = search rules in
    let total : SFits w128 (to_z w128 c.loop-i.sum-bits +ℤ c.product_of-sum.result) = sum_fits (c.args.k + 1) c.loop-i.i (split_term c.args.a.now c.args.b.now c.args.k)
    (to_z w128 c.loop-i.sum-bits) c.product_of-sum.result c.loop-i-test.true (product_is c) c.loop-i.invariant.bound in
    record {
      sum = simp to_z-of_z (so_far (c.args.k + 1) c.loop-i.i (split_term c.args.a.now c.args.b.now c.args.k)
          (to_z w128 c.loop-i.sum-bits) c.product_of-sum.result (product (entry c.args.a.now) (entry c.args.b.now) c.args.k) c.loop-i-test.true
          (product_is c) c.loop-i.invariant.sum);
      bound = simp to_z-of_z (next_bound (c.args.k + 1) c.loop-i.i (split_term c.args.a.now c.args.b.now c.args.k)
          (to_z w128 c.loop-i.sum-bits) c.product_of-sum.result c.loop-i-test.true (product_is c) c.loop-i.invariant.bound);
    }
