use Rattle.std.proofs.Common.{◌∙◌, ◌<◌, ◌*◌, ◌/◌, ◌%◌, length, sym, subst, arith}
use Rattle.std.proofs.Math.ListN.{length-set}
use Rattle.std.proofs.lemmas.Nat.{div_below, mod_below}
use Rattle.nef_parts.specs.declared.masks.VertexMask.{VertexMask}
use Rattle.nef_parts.specs.steps.Agreeing.{SomeAgrees}
use Rattle.nef_parts.proofs.Giving.{next_point}
use Rattle.nef_parts.proofs.partitions.write_points.Goals as goal

pub point_at-requires-clause-some : goal.point_at-requires-clause-some
point_at-requires-clause-some c =
    let k = c.loop-k.k in
    let r = c.args.r in
    let e = c.loop-k.invariant.count in
    let n = c.requires.count in
    let t = c.loop-k-test.true in
    let low : k < length c.args.masks.now * r = omega arith in
    let some = c.requires.some in
    subst (λ (m : VertexMask). SomeAgrees m c.args.begin.now (k % r)) (sym c.index-masks-k.is)
    (c.requires.agree (k / r) c.index-masks-k.result (div_below k r (length c.args.masks.now) some low) (k % r) (mod_below k r some))

pub loop-k-preserved : goal.loop-k-preserved
loop-k-preserved c =
    let k = c.loop-k.k in
    let r = c.args.r in
    let e = c.loop-k.invariant.count in
    let n = c.requires.count in
    let t = c.loop-k-test.true in
    let low : k < length c.args.masks.now * r = omega arith in
    let within : k < length c.loop-k.points = omega arith in
    record {
      count = length-set c.loop-k.points k c.point_at.result ∙ e;
      written = next_point c.args.masks.now c.args.begin.now r c.loop-k.points k c.point_at.result c.index-masks-k.result within
          (div_below k r (length c.args.masks.now) c.requires.some low) c.index-masks-k.is c.loop-k.invariant.written c.point_at.ensures;
    }
