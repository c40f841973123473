use Rattle.std.proofs.Common.{refl, arith}
use Rattle.std.proofs.lemmas.List.FromFn.{map-range_with_len_more}
use Rattle.item_points.specs.Matrices.{point_at}
use Rattle.item_points.proofs.matrices.points.Goals as goal

pub loop-index-preserved : goal.loop-index-preserved
loop-index-preserved c =
    let more = map-range_with_len_more (point_at c.args.matrix.now.lines c.args.matrix.now.columns c.args.matrix.now.entries.items) 0
    c.loop-index.index c.loop-index.index (omega arith) in
    rw (c.in_ok-push.ensures.items, c.point.ensures, c.loop-index.invariant, more) refl
