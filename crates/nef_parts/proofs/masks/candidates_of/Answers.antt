use Rattle.std.proofs.Common.{◌≡◌, ◌+◌, get_or, refl, sym, ap, ◌∙◌, subst}
use Rattle.std.proofs.lemmas.Bool.{true≢false}
use Rattle.std.proofs.lemmas.List.{get_or_default}
use Rattle.bit_rows.specs.Rows.{IsPartOf}
use Rattle.nef_parts.specs.declared.pairings.Pairings.{Pairings}
use Rattle.nef_parts.specs.steps.Rows.{pairings_at}
use Rattle.nef_parts.specs.steps.Tables.{AreCandidates}
use Rattle.nef_parts.proofs.MaskSteps.{candidates_same, candidates_more}
use Rattle.nef_parts.proofs.masks.candidates_of.Goals as goal
use Rattle.nef_parts.proofs.masks.candidates_of.Goals.{then-is_part_of+in_ok-push, else-is_part_of}

pub loop-place-preserved : goal.loop-place-preserved
loop-place-preserved c =
    let rows = c.args.rows.now in
    let tight = c.args.tight in
    let k = c.loop-place.place in
    let cs = c.loop-place.candidates.items in
    let row = c.index-rows-place.result in
    let here : get_or rows k row ≡ pairings_at rows k = get_or_default rows k row (record { tight = 0; low = 0 }) c.loop-place-test.true in
    elim c.if-is_part_of.branch [
      | then-is_part_of+in_ok-push w ↦
          let again = w.index-rows-place-then-is_part_of.result in
          let same : get_or rows k again ≡ pairings_at rows k = get_or_default rows k again (record { tight = 0; low = 0 }) c.loop-place-test.true in
          subst (AreCandidates (k + 1) tight rows) (sym (ap (λ vs. vs.items) w.candidates-is ∙ w.in_ok-push.ensures.items))
          (candidates_more k tight rows cs (record { place = k; tight = (get_or rows k again).tight }) c.loop-place.invariant c.loop-place-test.true
          (subst (λ (p : Pairings). IsPartOf tight p.low) here (c.is_part_of.ensures.0 w.if-is_part_of.true)) refl
          (ap (λ (p : Pairings). p.tight) same))
      | else-is_part_of w ↦
          subst (AreCandidates (k + 1) tight rows) (sym (ap (λ vs. vs.items) w.candidates-is))
          (candidates_same k tight rows cs c.loop-place.invariant
          (λ x. true≢false (sym (c.is_part_of.ensures.1 (subst (λ (p : Pairings). IsPartOf tight p.low) (sym here) x)) ∙ w.if-is_part_of.false)))
    ]
