use Rattle.std.proofs.Common.{◌≡◌, nat_abs, length, ◌∙◌, ap, SFits, w64}
use Rattle.std.proofs.lemmas.Int.{to_z-of_z}
use Rattle.weight_frame.specs.Frame.{IsZeroVector}
use Rattle.weight_frame.proofs.StepAnswers.{first_keeps, first_takes, first_turns, zero_from, positive_from, negative_from}
use Rattle.weight_frame.proofs.exchange.first_step.Goals as goal
use Rattle.weight_frame.proofs.exchange.first_step.Goals.{then-value-gt0, else-value-gt0}

pub returns-then-value-eq0 : goal.returns-then-value-eq0
returns-then-value-eq0 c =
    let zero : IsZeroVector (length c.args.u.now) c.zero_vector.result =
    rw (ap length c.entries.ensures.value) at c.zero_vector.ensures.zero in
    first_keeps (length c.args.u.now) c.args.u.now c.args.value c.args.h.now c.zero_vector.result c.copied.result
    (zero_from c.args.value c.ranges.value c.if-value-eq0.true) c.copied.ensures c.requires.within zero c.zero_vector.ensures.within

pub returns : goal.returns
returns c =
    let u = c.args.u.now in
    let v = c.args.value in
    let fits : SFits w64 v = c.ranges.value in
    let divisor : c.unsigned_abs.result ≡ nat_abs v = simp to_z-of_z at c.unsigned_abs.ensures.value in
    elim c.if-value-gt0.branch [
      | then-value-gt0 w ↦
          first_takes (length u) u v c.args.h.now c.if-value-gt0.last c.unsigned_abs.result
          (positive_from v (simp to_z-of_z at w.if-value-gt0.true)) (w.last-is ∙ w.copied-last.ensures) c.requires.value divisor
          c.requires.within
      | else-value-gt0 w ↦
          first_turns (length u) u v c.args.h.now c.if-value-gt0.last c.unsigned_abs.result
          (negative_from v (simp to_z-of_z at w.if-value-gt0.false) c.if-value-eq0.false) (w.last-is ∙ w.opposite-last.ensures.value)
          c.requires.value divisor (rw w.last-is w.opposite-last.ensures.within)
    ]
