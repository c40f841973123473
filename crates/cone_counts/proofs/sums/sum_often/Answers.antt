use Rattle.std.proofs.Common.{◌≡◌, ℕ, refl, subst, ◌∙◌, arith}
use Rattle.cone_counts.specs.CountSteps.{IsSummed}
use Rattle.cone_counts.proofs.RowSums.{none_summed, summed_more, small_again}
use Rattle.cone_counts.proofs.sums.sum_often.Goals as goal

pub loop-time-init : goal.loop-time-init
loop-time-init c = record { whole = refl; summed = none_summed c.args.set c.args.counts.now }

pub sum_up-requires-clause-small : goal.sum_up-requires-clause-small
sum_up-requires-clause-small c = small_again c.loop-time.time c.args.set c.args.counts.now c.loop-time.counts
    (let t = c.loop-time-test.true in let f = c.requires.few in omega (arith, t, f)) c.loop-time.invariant.summed c.requires.small

pub loop-time-preserved : goal.loop-time-preserved
loop-time-preserved c = record {
  whole = c.sum_up.ensures.whole ∙ c.loop-time.invariant.whole;
  summed = summed_more c.loop-time.time c.args.set c.args.counts.now c.loop-time.counts c.sum_up.new.counts c.loop-time.invariant.summed c.sum_up.ensures.summed;
}

pub returns-clause-summed : goal.returns-clause-summed
returns-clause-summed c =
    let e = c.loop-time.auto.time-end in
    let t = c.loop-time-test.false in
    subst (λ (k : ℕ). IsSummed k c.args.set c.args.counts.now c.loop-time.counts) (let i : c.loop-time.time ≡ c.args.times = omega (arith, e, t) in i)
    c.loop-time.invariant.summed
