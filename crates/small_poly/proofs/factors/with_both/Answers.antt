use Rattle.std.proofs.Common.{rules, SFits, ◌≡◌, ◌+◌, ◌-◌, ◌-ℤ◌, ◌+ℤ◌, ◌*ℤ◌, ℤ, pos, negsuc, to_z, refl, sym, ap, ◌∙◌}
use Rattle.std.specs.Int.{w128}
use Rattle.std.proofs.lemmas.Int.{to_z-of_z}
use Rattle.lattice_theory.specs.Vector.{entry}
use Rattle.polynomial_theory.specs.Series.{times_at_product}
use Rattle.polynomial_theory.proofs.Splits.{so_far}
use Rattle.small_poly.specs.Tables.{laurent_of, times_both}
use Rattle.small_poly.proofs.Products.{shift_term, shifted_product, small_product, power_raised, sum_begins, bound_begins, term_bound, next_bound, sum_fits}
use Rattle.small_poly.proofs.factors.with_both.Goals as goal
use Rattle.small_poly.proofs.factors.with_both.Goals.{After-product_of-sum}

product_is : (c : After-product_of-sum) → c.product_of-sum.result ≡ shift_term (negsuc 0) c.args.left.now
    (times_at_product (entry c.args.right.now) (laurent_of c.args.inner.now)) c.args.p c.args.q c.loop-a.a
product_is c =
    let first : SFits w128 c.read.result = search rules in
    let second : SFits w128 c.with_right.result = search rules in
    let e = simp to_z-of_z at c.product_of-sum.ensures in
    shifted_product (negsuc 0) c.read.result c.with_right.result c.product_of-sum.result c.args.left.now
    (times_at_product (entry c.args.right.now) (laurent_of c.args.inner.now)) c.args.p c.args.q c.loop-a.a
    c.read.ensures (c.with_right.ensures ∙ ap (λ (z : ℤ). times_at_product (entry c.args.right.now) (laurent_of c.args.inner.now) z
    (c.args.q - c.loop-a.a)) (sym (power_raised c.args.p c.loop-a.a))) e

pub loop-a-init : goal.loop-a-init
loop-a-init c = record {
  sum = sum_begins c.args.q (λ a b. entry c.args.left.now a *ℤ (times_at_product (entry c.args.right.now) (laurent_of c.args.inner.now)) (pos c.args.p -ℤ negsuc 0 *ℤ pos a) b);
  bound = bound_begins c.args.q (λ a b. entry c.args.left.now a *ℤ (times_at_product (entry c.args.right.now) (laurent_of c.args.inner.now))
      (pos c.args.p -ℤ negsuc 0 *ℤ pos a) b) (c.requires.second c.args.p c.args.q);
}

pub product_of-sum-requires : goal.product_of-sum-requires
product_of-sum-requires c =
    let first : SFits w128 c.read.result = search rules in
    let second : SFits w128 c.with_right.result = search rules in
    simp to_z-of_z (small_product c.read.result c.with_right.result (shift_term (negsuc 0) c.args.left.now
    (times_at_product (entry c.args.right.now) (laurent_of c.args.inner.now)) c.args.p c.args.q c.loop-a.a)
    (shifted_product (negsuc 0) c.read.result c.with_right.result (c.read.result *ℤ c.with_right.result) c.args.left.now
    (times_at_product (entry c.args.right.now) (laurent_of c.args.inner.now)) c.args.p c.args.q c.loop-a.a
    c.read.ensures (c.with_right.ensures ∙ ap (λ (z : ℤ). times_at_product (entry c.args.right.now) (laurent_of c.args.inner.now) z
    (c.args.q - c.loop-a.a)) (sym (power_raised c.args.p c.loop-a.a))) refl)
    (term_bound (c.args.q + 1) c.loop-a.a (shift_term (negsuc 0) c.args.left.now
    (times_at_product (entry c.args.right.now) (laurent_of c.args.inner.now)) c.args.p c.args.q) (to_z w128 c.loop-a.sum-bits) c.loop-a-test.true
    c.loop-a.invariant.bound))

pub overflow_add-sum : goal.overflow_add-sum
overflow_add-sum c =
    let fits : SFits w128 c.product_of-sum.result = search rules in
    simp to_z-of_z (sum_fits (c.args.q + 1) c.loop-a.a (shift_term (negsuc 0) c.args.left.now
    (times_at_product (entry c.args.right.now) (laurent_of c.args.inner.now)) c.args.p c.args.q) (to_z w128 c.loop-a.sum-bits)
    c.product_of-sum.result c.loop-a-test.true
    (product_is c) c.loop-a.invariant.bound)

pub loop-a-preserved : goal.loop-a-preserved
loop-a-preserved c =
    let fits : SFits w128 c.product_of-sum.result = search rules in
    let total : SFits w128 (to_z w128 c.loop-a.sum-bits +ℤ c.product_of-sum.result) = sum_fits (c.args.q + 1) c.loop-a.a
    (shift_term (negsuc 0) c.args.left.now (times_at_product (entry c.args.right.now) (laurent_of c.args.inner.now)) c.args.p c.args.q)
    (to_z w128 c.loop-a.sum-bits) c.product_of-sum.result c.loop-a-test.true (product_is c) c.loop-a.invariant.bound in
    record {
      sum = simp to_z-of_z (so_far (c.args.q + 1) c.loop-a.a (shift_term (negsuc 0) c.args.left.now
          (times_at_product (entry c.args.right.now) (laurent_of c.args.inner.now)) c.args.p c.args.q)
          (to_z w128 c.loop-a.sum-bits) c.product_of-sum.result (times_both (entry c.args.left.now) (entry c.args.right.now)
          (laurent_of c.args.inner.now) (pos c.args.p) c.args.q) c.loop-a-test.true (product_is c) c.loop-a.invariant.sum);
      bound = simp to_z-of_z (next_bound (c.args.q + 1) c.loop-a.a (shift_term (negsuc 0) c.args.left.now
          (times_at_product (entry c.args.right.now) (laurent_of c.args.inner.now)) c.args.p c.args.q)
          (to_z w128 c.loop-a.sum-bits) c.product_of-sum.result c.loop-a-test.true (product_is c) c.loop-a.invariant.bound);
    }
