use Rattle.std.proofs.Common.{◌+◌, length, sym, ap, ◌∙◌, subst, rules, arith}
use Rattle.std.proofs.Math.Nat.{mul-le-mul_right}
use Rattle.std.proofs.lemmas.List.{with_items_is}
use Rattle.incidence.specs.Incidences.{HasExactly}
use Rattle.cone_counts.specs.CountSteps.{other_part, AreMasks}
use Rattle.cone_counts.proofs.FreeParts.{no_masks, one_more_mask}
use Rattle.cone_counts.proofs.free.part_masks.Goals as goal

pub loop-part-init : goal.loop-part-init
loop-part-init c = record {
  words = c.in_ok-masks.ensures.words_are;
  room = c.in_ok-masks.ensures.room;
  space = search rules;
  masks = subst (AreMasks c.args.vectors.now c.args.words 0) (sym c.in_ok-masks.ensures.empty) (no_masks c.args.vectors.now c.args.words 0);
}

pub loop-part-preserved : goal.loop-part-preserved
loop-part-preserved c =
    let made = with_items_is c.loop-part.space c.put_others.new.words (c.put_others.ensures.whole ∙ c.deref_mut.ensures.len) in
    let long = c.put_others.ensures.whole ∙ ap length c.deref_mut.ensures.value ∙ c.loop-part.invariant.space in
    let row = c.deref.ensures.value ∙ made in
    record {
      words = c.push.ensures.row_words ∙ c.loop-part.invariant.words;
      room = let r = c.push.ensures.room in let i = c.loop-part.invariant.room in omega (arith, r, i);
      space = ap length made ∙ long;
      masks = subst (AreMasks c.args.vectors.now c.args.words (c.loop-part.part + 1)) (sym c.push.ensures.rows)
          (one_more_mask c.args.vectors.now c.args.words c.loop-part.part c.loop-part.masks.rows c.deref.result.now c.loop-part.invariant.masks
          (ap length row ∙ long)
          (subst (HasExactly (length c.args.vectors.now) (other_part c.args.vectors.now c.loop-part.part)) (sym row) c.put_others.ensures.bits));
    }

pub push-requires-clause-row : goal.push-requires-clause-row
push-requires-clause-row c =
    ap length (c.deref.ensures.value ∙ with_items_is c.loop-part.space c.put_others.new.words (c.put_others.ensures.whole ∙ c.deref_mut.ensures.len))
    ∙ c.put_others.ensures.whole ∙ ap length c.deref_mut.ensures.value ∙ c.loop-part.invariant.space ∙ sym c.loop-part.invariant.words

pub push-requires-clause-room : goal.push-requires-clause-room
push-requires-clause-room c =
    let t = c.loop-part-test.true in
    let m = c.loop-part.invariant.masks.many in
    let r = c.loop-part.invariant.room in
    let w = c.loop-part.invariant.words in
    rw (w, m) (let k = mul-le-mul_right {m = c.loop-part.part + 1} {n = c.args.parts} c.args.words (omega (arith, t)) in omega (arith, k, r))

pub put_others-requires-clause-room : goal.put_others-requires-clause-room
put_others-requires-clause-room c = rw (ap length c.deref_mut.ensures.value ∙ c.loop-part.invariant.space) c.requires.room
