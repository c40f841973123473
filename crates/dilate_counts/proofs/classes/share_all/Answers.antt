use Rattle.std.proofs.Common.{◌≡◌, ℕ, ◌+◌, ◌-◌, ◌*◌, length, take, drop, refl, ◌∙◌, subst, arith}
use Rattle.dilate_counts.specs.Classes.{AreShared}
use Rattle.dilate_counts.proofs.Shares.{part_is, all_shared_none, few_so_far, all_shared_more}
use Rattle.dilate_counts.proofs.classes.share_all.Goals as goal

pub loop-c-init : goal.loop-c-init
loop-c-init c = record { whole = refl; shared = all_shared_none c.args.sets.now.rows c.args.classes.now.rows c.args.seen.now c.args.counts.now }

pub share-requires-clause-few : goal.share-requires-clause-few
share-requires-clause-few c =
    let t = c.loop-c-test.true in
    let e = c.len-c-end.ensures.value in
    few_so_far c.args.sets.now.rows c.args.classes.now.rows c.args.seen.now c.loop-c.c (omega (arith, t, e)) c.args.counts.now c.loop-c.counts
    c.loop-c.invariant.shared (take (c.loop-c.c * 7 + 7 - c.loop-c.c * 7) (drop (c.loop-c.c * 7) c.args.seen.now)) c.row.result.now c.row.ensures.value
    (part_is c.args.seen.now c.loop-c.c) c.requires.few

pub loop-c-preserved : goal.loop-c-preserved
loop-c-preserved c =
    let t = c.loop-c-test.true in
    let e = c.len-c-end.ensures.value in
    record {
      whole = c.share.ensures.whole ∙ c.loop-c.invariant.whole;
      shared = all_shared_more c.args.sets.now.rows c.args.classes.now.rows c.args.seen.now c.loop-c.c (omega (arith, t, e)) c.args.counts.now c.loop-c.counts
          c.loop-c.invariant.shared (take (c.loop-c.c * 7 + 7 - c.loop-c.c * 7) (drop (c.loop-c.c * 7) c.args.seen.now)) c.row.result.now c.row.ensures.value
          (part_is c.args.seen.now c.loop-c.c) c.share.new.counts c.share.ensures.shared;
    }

pub returns-clause-shared : goal.returns-clause-shared
returns-clause-shared c =
    let t = c.loop-c-test.false in
    let e = c.len-c-end.ensures.value in
    let a = c.loop-c.auto.c-end in
    let all : c.loop-c.c ≡ length c.args.classes.now.rows = omega (arith, t, e, a) in
    subst (λ (j : ℕ). AreShared c.args.sets.now.rows c.args.classes.now.rows c.args.seen.now j c.args.counts.now c.loop-c.counts) all c.loop-c.invariant.shared
