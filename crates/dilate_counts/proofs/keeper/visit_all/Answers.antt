use Rattle.std.proofs.Common.{Bool, refl, subst, ◌∙◌}
use Rattle.point_scan.specs.Visits.{none}
use Rattle.dilate_counts.proofs.Kept.{visit_more, stops_at}
use Rattle.dilate_counts.proofs.keeper.visit_all.Goals as goal

pub loop-point-init : goal.loop-point-init
loop-point-init g c = record { dimension = refl; visited = none }

pub returns-then-not-visit-clause-visits : goal.returns-then-not-visit-clause-visits
returns-then-not-visit-clause-visits g c =
    stops_at g.V.Visitor.visits c.args.visitor.now c.loop-point.visitor c.visit.new.self c.args.points.now c.loop-point.point-index c.point-item.result
    c.loop-point-test.true c.point-item.is c.loop-point.invariant.visited
    (subst (λ (b : Bool). g.V.Visitor.visits c.loop-point.visitor c.point-item.result b c.visit.new.self) c.if-not-visit.true c.visit.ensures.visits)

pub loop-point-preserved : goal.loop-point-preserved
loop-point-preserved g c = record {
  dimension = c.visit.ensures.dimension ∙ c.loop-point.invariant.dimension;
  visited = visit_more g.V.Visitor.visits c.args.visitor.now c.loop-point.visitor c.visit.new.self c.args.points.now c.loop-point.point-index
      c.point-item.result c.loop-point-test.true c.point-item.is c.loop-point.invariant.visited
      (subst (λ (b : Bool). g.V.Visitor.visits c.loop-point.visitor c.point-item.result b c.visit.new.self) c.if-not-visit.false c.visit.ensures.visits);
}
