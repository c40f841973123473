use Rattle.std.proofs.Common.{◌≡◌, ◌*ℤ◌, map, pos, get_or, SFits, to_z, w64, rules, arith, refl}
use Rattle.std.proofs.lemmas.Int.{to_z-of_z}
use Rattle.lattice_theory.specs.Vector.{entry, dot}
use Rattle.weight_frame.proofs.Largest.{entry_at_most}
use Rattle.weight_frame.proofs.ValueSteps.{no_sum, weight_at_most, value_more, value_all, value_bound, value_fits}
use Rattle.weight_frame.proofs.values.weighted_value.Goals as goal
use Rattle.weight_frame.proofs.values.weighted_value.Goals.{After-weighted-sum}

pub weighted-sum-requires-clause-entry : goal.weighted-sum-requires-clause-entry
weighted-sum-requires-clause-entry c =
    let x : SFits w64 (entry c.args.x.now c.loop-i.i) = search rules in
    let h = entry_at_most c.args.x.now c.loop-i.i in
    simp to_z-of_z (omega arith)

pub weighted-sum-requires-clause-weight : goal.weighted-sum-requires-clause-weight
weighted-sum-requires-clause-weight c = let h = weight_at_most c.args.weights.now c.loop-i.i in let m = c.requires.weights in omega arith

pub loop-i-init : goal.loop-i-init
loop-i-init c = record { sum = no_sum (dot (map pos c.args.weights.now) c.args.x.now); bound = omega arith }

-- the product of this turn
product_is : (c : After-weighted-sum)
    → c.weighted-sum.result ≡ pos (get_or c.args.weights.now c.loop-i.i 0) *ℤ entry c.args.x.now c.loop-i.i
product_is c =
    let x : SFits w64 (entry c.args.x.now c.loop-i.i) = search rules in
    simp to_z-of_z at c.weighted-sum.ensures.value

pub overflow_add-sum : goal.overflow_add-sum
overflow_add-sum c =
    let p : SFits w64 c.weighted-sum.result = search rules in
    simp to_z-of_z (value_fits c.args.weights.now c.loop-i.i (to_z w64 c.loop-i.sum-bits) c.weighted-sum.result c.requires.weights
    (omega arith) c.weighted-sum.ensures.bound c.loop-i.invariant.bound)

pub loop-i-preserved : goal.loop-i-preserved
loop-i-preserved c =
    let p : SFits w64 c.weighted-sum.result = search rules in
    let whole = simp to_z-of_z at (overflow_add-sum c) in
    record {
      sum = simp to_z-of_z (value_more c.args.weights.now c.args.x.now c.loop-i.i (to_z w64 c.loop-i.sum-bits) c.weighted-sum.result _
          (omega arith) (omega arith) (product_is c) refl c.loop-i.invariant.sum);
      bound = simp to_z-of_z (value_bound c.args.weights.now c.loop-i.i (to_z w64 c.loop-i.sum-bits) c.weighted-sum.result _
          (omega arith) refl c.weighted-sum.ensures.bound c.loop-i.invariant.bound);
    }

pub returns : goal.returns
returns c = record {
  value = value_all c.args.weights.now c.args.x.now c.loop-i.i _ (omega arith) c.requires.same c.loop-i.invariant.sum;
  bound = let h = c.loop-i.invariant.bound in let m = c.requires.weights in omega arith;
}
