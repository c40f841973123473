use Rattle.std.proofs.Common.{◌+◌, refl, ◌∙◌, arith}
use Rattle.std.proofs.lemmas.List.{length-set}
use Rattle.dilate_counts.proofs.Shares.{summed_none, summed_more, not_yet}
use Rattle.dilate_counts.proofs.classes.add_degrees.Goals as goal

pub loop-l-init : goal.loop-l-init
loop-l-init c = record { whole = refl; summed = summed_none c.args.at c.args.seen.now c.args.counts.now }

pub overflow_add-counts-in-loop-l : goal.overflow_add-counts-in-loop-l
overflow_add-counts-in-loop-l c =
    let same = not_yet c.args.at c.args.seen.now c.loop-l.l c.args.counts.now c.loop-l.counts c.loop-l.invariant.summed in
    let few = c.requires.few c.loop-l.l c.loop-l-test.true in
    omega (arith, same, few)

pub loop-l-preserved : goal.loop-l-preserved
loop-l-preserved c = record {
  whole = length-set c.loop-l.counts (c.args.at + c.loop-l.l) _ ∙ c.loop-l.invariant.whole;
  summed = summed_more c.args.at c.args.seen.now c.loop-l.l c.args.counts.now c.loop-l.counts c.loop-l.invariant.summed
      (let t = c.loop-l-test.true in let r = c.requires.room in let w = c.loop-l.invariant.whole in omega (arith, t, r, w));
}
