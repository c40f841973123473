use Rattle.std.proofs.Common.{◌<◌, List, ℤ, length, sym, ap, ◌∙◌, subst, All, Contains}
use Rattle.hull.proofs.FewerPoints.{one_more_among}
use Rattle.hull.proofs.spread.spread_points.Goals as goal
use Rattle.hull.proofs.spread.spread_points.Goals.{then-place-points+in_ok-push-2, else-place-points}

pub loop-turn-preserved : goal.loop-turn-preserved
loop-turn-preserved c =
    let points = c.args.points.now in
    elim c.if-place-points.branch [
      | then-place-points+in_ok-push-2 w ↦
          let more = one_more_among points c.loop-turn.spread.items c.if-place-points.spread.items w.index-points-place.result
          w.copied-then-place-points.result c.saturating_mul-place.result w.if-place-points.true w.index-points-place.is
          w.copied-then-place-points.ensures (ap (λ ps. ps.items) w.spread-is ∙ w.in_ok-push-2.ensures.items) c.loop-turn.invariant.among in
          record { some = more.0; among = more.1 }
      | else-place-points w ↦
          let same = ap (λ ps. ps.items) w.spread-is in record {
            some = subst (λ (ps : List (List ℤ)). 0 < length ps) (sym same) c.loop-turn.invariant.some;
            among = subst (All (Contains points)) (sym same) c.loop-turn.invariant.among;
          }
    ]
