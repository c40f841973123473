use Rattle.hull.proofs.CandidatePoints.{candidates_stay, candidates_grow}
use Rattle.hull.proofs.candidates.candidates_of.Goals as goal
use Rattle.hull.proofs.candidates.candidates_of.Goals.{then-not-is_below+in_ok-push, else-not-is_below}
use Rattle.std.proofs.Common.{Any, refl, sym, ap, ◌∙◌, subst}
use Rattle.hull.specs.steps.Candidates.{IsAbove, AreCandidates}

pub loop-p-preserved : goal.loop-p-preserved
loop-p-preserved c =
    let facets = c.args.facets.now in
    let points = c.args.points.now in
    let i = c.loop-p.p-index in
    let p = c.p-item.result in
    let before = c.loop-p.candidates.items in
    elim c.if-not-is_below.branch [
      | then-not-is_below+in_ok-push w ↦ candidates_grow facets points i c.tight_row-row.result p before c.if-not-is_below.candidates.items
          (record { point = w.copied.result; row = c.tight_row-row.result }) c.loop-p-test.true c.p-item.is c.tight_row-row.ensures
          w.copied.ensures refl (ap (λ cs. cs.items) w.candidates-is ∙ w.in_ok-push.ensures.items) c.loop-p.invariant
      | else-not-is_below w ↦ subst (AreCandidates facets _) (sym (ap (λ cs. cs.items) w.candidates-is))
          (candidates_stay facets points i c.tight_row-row.result p before c.loop-p-test.true c.p-item.is c.tight_row-row.ensures
          (subst (Any (IsAbove c.tight_row-row.result p)) c.deref.ensures.value (c.is_below.ensures.0 w.if-not-is_below.false))
          c.loop-p.invariant)
    ]
