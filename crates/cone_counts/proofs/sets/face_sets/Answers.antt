use Rattle.std.proofs.Common.{ℕ, ◌+◌, ◌<◌, ◌≤◌, List, length, take, refl, sym, ap, ◌∙◌, subst, arith}
use Rattle.std.proofs.lemmas.List.{length-take-le}
use Rattle.cone_counts.specs.CountSteps.{AreFirstSets, AreFaceSets}
use Rattle.cone_counts.proofs.FaceSets.{no_sets, one_more_set, empty_last, zeros_tell_none}
use Rattle.cone_counts.proofs.sets.face_sets.Goals as goal

pub loop-face-init : goal.loop-face-init
loop-face-init c = record {
  words = c.in_ok-sets.ensures.words_are;
  room = let r = c.in_ok-sets.ensures.room in let l = c.len.ensures.value in rw (sym c.len.ensures.value) r;
  first = subst (AreFirstSets c.args.side c.args.table.now.faces c.args.words 0) (sym c.in_ok-sets.ensures.empty) (no_sets c.args.side c.args.table.now.faces c.args.words);
}

pub loop-face-preserved : goal.loop-face-preserved
loop-face-preserved c =
    let t = c.loop-face-test.true in
    let e = c.len-face-end.ensures.value in
    let l : c.loop-face.face < length c.args.table.now.faces = omega (arith, t, e) in
    record {
      words = c.push.ensures.row_words ∙ c.loop-face.invariant.words;
      room = let r = c.push.ensures.room in let i = c.loop-face.invariant.room in omega (arith, r, i);
      first = subst (AreFirstSets c.args.side c.args.table.now.faces c.args.words (c.loop-face.face + 1)) (sym c.push.ensures.rows)
          (one_more_set c.args.side c.args.table.now.faces c.args.words c.loop-face.face _ c.loop-face.invariant.first _
          (length-take-le c.args.words c.words_of.result.now
          (subst (λ (w : List ℕ). c.args.words ≤ length w) (sym c.words_of.ensures) (c.requires.wide c.loop-face.face l)))
          (ap (take c.args.words) c.words_of.ensures));
    }

pub returns-clause-sets : goal.returns-clause-sets
returns-clause-sets c =
    let t = c.loop-face-test.false in
    let e = c.len-face-end.ensures.value in
    let m = c.requires.most in
    subst (AreFaceSets c.args.side c.args.table.now.faces c.args.words) (sym c.push-2.ensures.rows)
    (empty_last c.args.side c.args.table.now.faces c.args.words c.loop-face.face _ c.loop-face.invariant.first _
    (length-take-le c.args.words _ m) (let a = c.loop-face.auto.face-end in omega (arith, t, e, a)) (λ number b. zeros_tell_none 64 0 c.args.words refl m number b))

pub returns-clause-few : goal.returns-clause-few
returns-clause-few c =
    let m = (returns-clause-sets c).many in let f = c.len.ensures.few in let e = c.len.ensures.value in omega (arith, m, f, e)
