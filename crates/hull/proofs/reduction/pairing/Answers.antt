use Rattle.std.proofs.Common.{◌*ℤ◌, ◌≡◌, ◌≤◌, ◌^◌, nat_abs, rules, arith, refl, pos, SFits, w64}
use Rattle.std.specs.Int.{w128}
use Rattle.std.proofs.lemmas.Int.{to_z-of_z}
use Rattle.lattice_theory.specs.Vector.{entry}
use Rattle.lattice_core.proofs.DotSteps.{sum_more, bound_more, sum_fits}
use Rattle.hull.proofs.reduction.pairing.Goals as goal
use Rattle.hull.proofs.reduction.pairing.Goals.{After-product-sum}

-- the product of this turn
product_is : (c : After-product-sum) → c.product-sum.result ≡ entry c.args.k.now c.loop-i.i *ℤ entry c.args.v.now c.loop-i.i
product_is c =
    let first : SFits w128 (entry c.args.k.now c.loop-i.i) = search rules in
    let second : SFits w64 (entry c.args.v.now c.loop-i.i) = search rules in
    simp to_z-of_z at c.product-sum.ensures

-- the entry of this turn
first_small : (c : After-product-sum) → nat_abs (entry c.args.k.now c.loop-i.i) ≤ 2 ^ 63
first_small c = c.requires.entries c.loop-i.i (pos 0) (omega arith)

pub overflow_add-sum : goal.overflow_add-sum
overflow_add-sum c =
    let product_fits : SFits w128 c.product-sum.result = search rules in
    simp to_z-of_z (sum_fits c.args.v.now c.loop-i.i _ _ _ (omega arith) (omega arith) (first_small c)
    (product_is c) c.loop-i.invariant.bound)

pub loop-i-preserved : goal.loop-i-preserved
loop-i-preserved c =
    let product_fits : SFits w128 c.product-sum.result = search rules in
    let total_fits = simp to_z-of_z at (overflow_add-sum c) in
    record {
      sum = simp to_z-of_z (sum_more c.args.k.now c.args.v.now c.loop-i.i _ _ _ (omega arith) (omega arith)
          (product_is c) refl c.loop-i.invariant.sum);
      bound = simp to_z-of_z (bound_more (2 ^ 63) c.args.v.now c.loop-i.i _ _ _ _ _ (omega arith) (first_small c)
          (product_is c) refl c.loop-i.invariant.bound);
    }
