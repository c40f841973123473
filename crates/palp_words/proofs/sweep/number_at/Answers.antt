use Rattle.std.proofs.Common.{ℕ, List, refl, sym, ap, ◌∙◌}
use Rattle.palp_words.specs.Places.{first_number_fault, first_number}
use Rattle.palp_words.proofs.Faults.{next_word}
use Rattle.palp_words.proofs.sweep.number_at.Goals as goal

pub returns-in-Ok : goal.returns-in-Ok
returns-in-Ok c =
    let lt = c.if-place-further.false in
    let next = next_word c.args.further.now c.args.place _ c.as_bytes.result.now lt c.index-further-place.is c.as_bytes.ensures.value in (
      ap (λ (ws : List (List ℕ)). first_number_fault c.args.low c.args.high ws) next.back ∙ c.in-Ok.ensures.0,
      c.in-Ok.ensures.1 ∙ sym (ap first_number next.back),
    )

pub returns-in-Err : goal.returns-in-Err
returns-in-Err c =
    let lt = c.if-place-further.false in
    let next = next_word c.args.further.now c.args.place _ c.as_bytes.result.now lt c.index-further-place.is c.as_bytes.ensures.value in
    (ap (λ (ws : List (List ℕ)). first_number_fault c.args.low c.args.high ws) next.back ∙ c.in-Err.ensures, refl)
