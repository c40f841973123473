use Rattle.std.proofs.Common.{◌+◌, length, refl, sym, ap, ◌∙◌, subst, arith}
use Rattle.std.proofs.lemmas.List.{length-set}
use Rattle.dual_pair.proofs.Counts.{AreCounted, counted_first, counted_few, counted_none, counted_one}
use Rattle.dual_pair.proofs.interiors.counts_with.Goals.{in-Some, in_default}
use Rattle.dual_pair.proofs.interiors.counts_with.Goals as goal

pub loop-i-init : goal.loop-i-init
loop-i-init c = record {
  whole = refl;
  space = refl;
  counted = counted_first c.args.side c.args.table.now.faces c.args.functions.now c.args.points.now 4096 0 refl;
}

pub overflow_add-counts : goal.overflow_add-counts
overflow_add-counts c =
    let t = c.loop-i-test.true in
    let few = counted_few c.args.side c.args.table.now.faces c.args.functions.now c.args.points.now c.loop-i.i c.loop-i.counts c.in-Some.face
    (omega arith) c.loop-i.invariant.counted c.in-Some.ensures.face.0 in
    let m = c.requires.few in
    omega arith

pub loop-i-preserved : goal.loop-i-preserved
loop-i-preserved c = elim c.match-face_with.branch [
  | in-Some w ↦ record {
    whole = ap length w.counts-is ∙ length-set c.loop-i.counts w.in-Some.face _ ∙ c.loop-i.invariant.whole;
    space = c.face_with.ensures.long ∙ c.loop-i.invariant.space;
    counted =
        let few = w.in-Some.ensures.few in
        let whole = c.loop-i.invariant.whole in
        subst (AreCounted c.args.side c.args.table.now.faces c.args.functions.now c.args.points.now (c.loop-i.i + 1)) (sym w.counts-is)
        (counted_one c.args.side c.args.table.now.faces c.args.functions.now c.args.points.now c.loop-i.i c.index-points-i.result
        c.loop-i-test.true c.index-points-i.is (length c.args.space.now) c.loop-i.counts w.in-Some.face c.requires.sets (omega arith)
        c.loop-i.invariant.counted w.in-Some.ensures.face.0 w.in-Some.ensures.face.1);
  }
  | in_default w ↦ record {
    whole = ap length w.counts-is ∙ c.loop-i.invariant.whole;
    space = c.face_with.ensures.long ∙ c.loop-i.invariant.space;
    counted = subst (AreCounted c.args.side c.args.table.now.faces c.args.functions.now c.args.points.now (c.loop-i.i + 1)) (sym w.counts-is)
        (counted_none c.args.side c.args.table.now.faces c.args.functions.now c.args.points.now c.loop-i.i c.index-points-i.result
        c.loop-i-test.true c.index-points-i.is c.loop-i.counts c.loop-i.invariant.counted w.in_default.ensures.face);
  }
]
