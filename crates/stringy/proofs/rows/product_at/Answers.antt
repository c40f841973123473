use Rattle.std.proofs.Common.{rules, arith, SFits, ◌≡◌, ◌+◌, ◌-◌, ◌<◌, ◌+ℤ◌, ◌*ℤ◌, to_z}
use Rattle.std.specs.Int.{w64}
use Rattle.std.proofs.lemmas.Int.{to_z-of_z}
use Rattle.lattice_theory.specs.Vector.{entry}
use Rattle.lattice_theory.proofs.Vectors.{entry_past}
use Rattle.stringy.proofs.Coefficients.{sum_begins, sum_ends, term_so_far, bound_so_far, sum_fits, past_min}
use Rattle.stringy.proofs.rows.product_at.Goals as goal
use Rattle.stringy.proofs.rows.product_at.Goals.{After-product_of-sum}

product_is : (c : After-product_of-sum) → c.product_of-sum.result ≡ entry c.args.first.now (c.args.k - c.loop-b.b) *ℤ entry c.args.second.now c.loop-b.b
product_is c =
    let first : SFits w64 (entry c.args.first.now (c.args.k - c.loop-b.b)) = search rules in
    let second : SFits w64 (entry c.args.second.now c.loop-b.b) = search rules in
    simp to_z-of_z at c.product_of-sum.ensures.value

pub loop-b-init : goal.loop-b-init
loop-b-init c = record { sum = sum_begins (entry c.args.first.now) (entry c.args.second.now) c.args.k; bound = omega arith }

pub loop-b-preserved : goal.loop-b-preserved
loop-b-preserved c =
    let fits : SFits w64 c.product_of-sum.result = search rules in
    let within : c.loop-b.b < c.args.k + 1 = let h = c.loop-b-test.true in let m = c.min-b-end.ensures in omega arith in
    let total : SFits w64 (to_z w64 c.loop-b.sum-bits +ℤ c.product_of-sum.result) =
    sum_fits (to_z w64 c.loop-b.sum-bits) c.product_of-sum.result c.loop-b.b (let h = c.loop-b-test.true in let m =
    c.min-b-end.ensures in omega arith) c.product_of-sum.ensures.small c.loop-b.invariant.bound in
    record {
      sum = simp to_z-of_z (term_so_far (entry c.args.first.now) (entry c.args.second.now) c.args.k c.loop-b.b
          (to_z w64 c.loop-b.sum-bits) c.product_of-sum.result within (product_is c) c.loop-b.invariant.sum);
      bound = simp to_z-of_z (bound_so_far (to_z w64 c.loop-b.sum-bits) c.product_of-sum.result c.loop-b.b c.product_of-sum.ensures.small c.loop-b.invariant.bound);
    }

pub returns-clause-value : goal.returns-clause-value
returns-clause-value c = sum_ends (entry c.args.first.now) (entry c.args.second.now) c.args.k c.loop-b.b (to_z w64 c.loop-b.sum-bits)
    (λ b l m. entry_past c.args.second.now b (let h = c.loop-b-test.false in let e = c.min-b-end.ensures in
    let p = past_min b (c.args.k + 1) 4 (omega arith) m in let t = c.told-second in omega arith)) c.loop-b.invariant.sum
