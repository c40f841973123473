use Rattle.std.proofs.Common.{ℕ, ◌^◌, ◌≤◌, List, length, refl, sym, ap, ◌∙◌, subst, arith}
use Rattle.cone_counts.specs.CountSteps.{IsWithinNumber}
use Rattle.cone_counts.proofs.SetSums.{none_done, done_one, all_done, small_at}
use Rattle.cone_counts.proofs.sums.sum_all.Goals as goal

pub loop-set-init : goal.loop-set-init
loop-set-init c = record { whole = refl; summed = none_done c.args.masks.now.rows c.args.sets.now.rows c.args.counts.now }

pub loop-set-preserved : goal.loop-set-preserved
loop-set-preserved c = record {
  whole = c.sum_often.ensures.whole ∙ c.loop-set.invariant.whole;
  summed = done_one c.args.masks.now.rows c.args.sets.now.rows c.loop-set.set c.args.counts.now c.loop-set.counts c.sum_often.new.counts
      c.loop-set.invariant.summed c.count_within.result
      (subst (λ (row : List ℕ). IsWithinNumber row c.args.masks.now.rows c.count_within.result) c.row.ensures c.count_within.ensures.number)
      c.sum_often.ensures.summed;
}

pub returns-clause-summed : goal.returns-clause-summed
returns-clause-summed c =
    let t = c.loop-set-test.false in
    let e = c.len-set-end.ensures in
    all_done c.args.masks.now.rows c.args.sets.now.rows c.loop-set.set c.args.counts.now c.loop-set.counts (omega (arith, t, e)) c.loop-set.invariant.summed

pub sum_often-requires-clause-room : goal.sum_often-requires-clause-room
sum_often-requires-clause-room c =
    let r = c.requires.room in let w = c.loop-set.invariant.whole in let t = c.loop-set-test.true in let e = c.len-set-end.ensures in
    omega (arith, r, w, t, e)

pub sum_often-requires-clause-small : goal.sum_often-requires-clause-small
sum_often-requires-clause-small c l m =
    subst (λ (k : ℕ). k ≤ 2 ^ 22) (sym (c.loop-set.invariant.summed.behind c.loop-set.set l (omega arith) m))
    (small_at c.args.counts.now (length c.args.sets.now.rows) (2 ^ 22) c.requires.room c.requires.small c.loop-set.set l
    (let t = c.loop-set-test.true in let e = c.len-set-end.ensures in omega (arith, t, e)) m)

pub sum_often-requires-clause-few : goal.sum_often-requires-clause-few
sum_often-requires-clause-few c = let m = c.count_within.ensures.most in let f = c.requires.few in omega (arith, m, f)

pub count_within-requires : goal.count_within-requires
count_within-requires c = record {
  words = λ k l. ap length c.row.ensures
      ∙ c.requires.words.1 c.loop-set.set (let t = c.loop-set-test.true in let e = c.len-set-end.ensures in omega (arith, t, e)) ∙ sym (c.requires.words.2 k l);
}
