use Rattle.std.proofs.Common.{◌*ℤ◌, ◌≡◌, ◌≤◌, ◌^◌, nat_abs, rules, arith, refl, ◌∙◌, ⊎_elim, SFits, w64}
use Rattle.std.specs.Int.{w128}
use Rattle.std.proofs.lemmas.Int.{ints, to_z-of_z}
use Rattle.lattice_theory.specs.Vector.{entry}
use Rattle.lattice_theory.specs.Size.{absolute_sum}
use Rattle.lattice_theory.proofs.Integers.{*ℤ_comm}
use Rattle.lattice_core.proofs.DotSteps.{sum_more, bound_more, sum_fits, sum_all}
use Rattle.lattice_core.proofs.pairing.pair_of.Goals as goal
use Rattle.lattice_core.proofs.pairing.pair_of.Goals.{After-product-sum}

-- the product of this turn
product_is : (c : After-product-sum) → c.product-sum.result ≡ entry c.args.a.now c.loop-i.i *ℤ entry c.args.b.now c.loop-i.i
product_is c =
    let first : SFits w64 (entry c.args.a.now c.loop-i.i) = search rules in
    let second : SFits w64 (entry c.args.b.now c.loop-i.i) = search rules in
    simp to_z-of_z at c.product-sum.ensures

-- the same product, with the second vector's entry first
turned_is : (c : After-product-sum) → c.product-sum.result ≡ entry c.args.b.now c.loop-i.i *ℤ entry c.args.a.now c.loop-i.i
turned_is c = product_is c ∙ *ℤ_comm (entry c.args.a.now c.loop-i.i) (entry c.args.b.now c.loop-i.i)

-- the entries of this turn
first_small : (c : After-product-sum) → nat_abs (entry c.args.a.now c.loop-i.i) ≤ 2 ^ 63
first_small c = let first : SFits w64 (entry c.args.a.now c.loop-i.i) = search rules in omega (arith, ints)

second_small : (c : After-product-sum) → nat_abs (entry c.args.b.now c.loop-i.i) ≤ 2 ^ 63
second_small c = let second : SFits w64 (entry c.args.b.now c.loop-i.i) = search rules in omega (arith, ints)

pub loop-i-init : goal.loop-i-init
loop-i-init c = record { sum = omega (arith, ints); left = omega arith; right = omega arith }

pub overflow_add-sum : goal.overflow_add-sum
overflow_add-sum c =
    let product_fits : SFits w128 c.product-sum.result = search rules in
    simp to_z-of_z (⊎_elim
    (λ (small : absolute_sum c.args.a.now ≤ 2 ^ 60).
    sum_fits c.args.a.now c.loop-i.i _ _ _ (omega arith) small (second_small c) (turned_is c) c.loop-i.invariant.left)
    (λ (small : absolute_sum c.args.b.now ≤ 2 ^ 60).
    sum_fits c.args.b.now c.loop-i.i _ _ _ (omega arith) small (first_small c) (product_is c) c.loop-i.invariant.right)
    c.requires.small)

pub loop-i-preserved : goal.loop-i-preserved
loop-i-preserved c =
    let product_fits : SFits w128 c.product-sum.result = search rules in
    let total_fits = simp to_z-of_z at (overflow_add-sum c) in
    record {
      sum = simp to_z-of_z (sum_more c.args.a.now c.args.b.now c.loop-i.i _ _ _ (omega arith) (omega arith)
          (product_is c) refl c.loop-i.invariant.sum);
      left = simp to_z-of_z (bound_more (2 ^ 63) c.args.a.now c.loop-i.i _ _ _ _ _ (omega arith) (second_small c)
          (turned_is c) refl c.loop-i.invariant.left);
      right = simp to_z-of_z (bound_more (2 ^ 63) c.args.b.now c.loop-i.i _ _ _ _ _ (omega arith) (first_small c)
          (product_is c) refl c.loop-i.invariant.right);
    }

pub returns : goal.returns
returns c =
    record {
      value = sum_all c.args.a.now c.args.b.now c.loop-i.i _ (omega arith) c.loop-i.invariant.sum;
      left = omega arith;
      right = omega arith;
    }
