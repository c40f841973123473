use mir.Syntax.{w64}
use mir.Val.{SFits}
use Rattle.std.proofs.Common.{length, ap, refl, rules, arith}
use Rattle.std.proofs.lemmas.Int.{to_z-of_z}
use Rattle.std.proofs.lemmas.List.FromFn.{length-map-range_with_len, map-range_with_len_more}
use Rattle.item_points.specs.Matrices.{coordinate_of}
use Rattle.item_points.proofs.matrices.point.Goals as goal

pub push-requires : goal.push-requires
push-requires c =
    let some = length-map-range_with_len (coordinate_of c.args.matrix.now.lines c.args.matrix.now.columns c.args.matrix.now.entries.items
    c.args.index) 0 c.loop-place.place in
    omega (arith, c.requires.most, ap length c.loop-place.invariant, some)

pub loop-place-preserved : goal.loop-place-preserved
loop-place-preserved c =
    let fits : SFits w64 c.coordinate.result = search rules in
    let more = map-range_with_len_more (coordinate_of c.args.matrix.now.lines c.args.matrix.now.columns c.args.matrix.now.entries.items
    c.args.index) 0 c.loop-place.place c.loop-place.place (omega arith) in
    rw (c.push.ensures.items, to_z-of_z w64 c.coordinate.result fits, c.coordinate.ensures, c.loop-place.invariant, more) refl
