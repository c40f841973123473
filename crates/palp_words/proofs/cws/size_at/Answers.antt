use Rattle.std.proofs.Common.{refl, sym, ap, ◌∙◌}
use Rattle.palp_words.specs.Places.{first_size_fault, first_size}
use Rattle.palp_words.proofs.Faults.{next_word}
use Rattle.palp_words.proofs.cws.size_at.Goals as goal

pub returns-in-Ok : goal.returns-in-Ok
returns-in-Ok c =
    let lt = c.if-place-further.false in
    let next = next_word c.args.further.now c.args.place _ c.as_bytes.result.now lt c.index-further-place.is c.as_bytes.ensures.value in
    (ap first_size_fault next.back ∙ c.in-Ok.ensures.0, c.in-Ok.ensures.1 ∙ sym (ap first_size next.back))

pub returns-in-Err : goal.returns-in-Err
returns-in-Err c =
    let lt = c.if-place-further.false in
    let next = next_word c.args.further.now c.args.place _ c.as_bytes.result.now lt c.index-further-place.is c.as_bytes.ensures.value in
    (ap first_size_fault next.back ∙ c.in-Err.ensures, refl)
