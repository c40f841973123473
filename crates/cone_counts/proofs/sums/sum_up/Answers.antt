use Rattle.std.proofs.Common.{ℕ, ◌+◌, refl, ap, ◌∙◌, arith}
use Rattle.std.proofs.lemmas.List.{length-set}
use Rattle.base_counts.specs.Counting.{count_at}
use Rattle.cone_counts.proofs.RowSums.{sums_begin, next_small, sum_one, sums_end, place_before}
use Rattle.cone_counts.proofs.sums.sum_up.Goals as goal

pub loop-degree-init : goal.loop-degree-init
loop-degree-init c = record { some = omega arith; whole = refl; summed = sums_begin c.args.set c.args.counts.now }

pub overflow_add-counts-in-loop-degree-2 : goal.overflow_add-counts-in-loop-degree-2
overflow_add-counts-in-loop-degree-2 c =
    let before = place_before c.args.set c.loop-degree.degree c.loop-degree.counts c.loop-degree.invariant.some in
    let small = next_small c.args.set c.loop-degree.degree c.args.counts.now c.loop-degree.counts c.loop-degree.invariant.summed c.loop-degree.invariant.some
    c.loop-degree-test.true c.requires.small in
    omega (arith, before, small)

pub loop-degree-preserved : goal.loop-degree-preserved
loop-degree-preserved c = record {
  some = omega arith;
  whole = length-set c.loop-degree.counts _ _ ∙ c.loop-degree.invariant.whole;
  summed = sum_one c.args.set c.loop-degree.degree c.args.counts.now c.loop-degree.counts c.loop-degree.invariant.summed c.loop-degree.invariant.some
      c.loop-degree-test.true
      (let room = c.requires.room in let t = c.loop-degree-test.true in let m = c.loop-degree.invariant.whole in omega (arith, room, t, m))
      _
      (ap (λ (v : ℕ). count_at c.loop-degree.counts c.args.set c.loop-degree.degree + v)
      (place_before c.args.set c.loop-degree.degree c.loop-degree.counts c.loop-degree.invariant.some));
}

pub returns-clause-summed : goal.returns-clause-summed
returns-clause-summed c = sums_end c.args.set c.loop-degree.degree c.args.counts.now c.loop-degree.counts
    (let t = c.loop-degree-test.false in omega (arith, t)) c.loop-degree.invariant.summed
