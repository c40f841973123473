use Rattle.std.proofs.Common.{◌+ℤ◌, rules, arith, SFits, w64, to_z, refl}
use Rattle.std.proofs.lemmas.Int.{ints, to_z-of_z}
use Rattle.weight_certificates.proofs.Sums.{sum_more, sum_all, next_fits, next_small}
use Rattle.weight_certificates.proofs.columns.column_sum.Goals as goal
use Rattle.weight_certificates.proofs.columns.column_sum.Goals.{After-entry-sum}

pub loop-p-init : goal.loop-p-init
loop-p-init c = record { sum = omega (arith, ints); small = omega arith }

pub overflow_add-sum : goal.overflow_add-sum
overflow_add-sum c =
    let fits : SFits w64 c.entry-sum.result = search rules in
    simp to_z-of_z (next_fits c.args.points.now c.args.j c.loop-p.p-index _ _ _ c.loop-p-test.true c.p-item.is c.entry-sum.ensures
    c.requires.small c.requires.count c.loop-p.invariant.small)

pub loop-p-preserved : goal.loop-p-preserved
loop-p-preserved c =
    let fits : SFits w64 c.entry-sum.result = search rules in
    let total_fits = simp to_z-of_z at (overflow_add-sum c) in
    record {
      sum = simp to_z-of_z (sum_more c.args.points.now c.args.j c.loop-p.p-index _ _ _ c.loop-p-test.true c.p-item.is
          (rw c.entry-sum.ensures refl) c.loop-p.invariant.sum);
      small = simp to_z-of_z (next_small c.args.points.now c.args.j c.loop-p.p-index _ _ _ c.loop-p-test.true c.p-item.is c.entry-sum.ensures
          c.requires.small c.loop-p.invariant.small);
    }

pub returns : goal.returns
returns c = record {
  sum = sum_all c.args.points.now c.args.j c.loop-p.p-index _ (omega arith) c.loop-p.invariant.sum;
  bound = omega arith;
}
