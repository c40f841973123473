use Rattle.std.proofs.Common.{map, string_bytes, sym, ◌∙◌}
use Rattle.palp_words.proofs.Faults.{next_word}
use Rattle.palp_words.proofs.Options.{skips_at, stops_at}
use Rattle.palp_words.proofs.cws.options_end.Goals as goal

pub returns-then-not-is_option-clause-rest : goal.returns-then-not-is_option-clause-rest
returns-then-not-is_option-clause-rest c =
    let words = map string_bytes c.args.further.now in
    let i = c.loop-place.place in
    let next = next_word c.args.further.now i _ c.as_bytes.result.now c.loop-place-test.true c.index-further-place.is
    c.as_bytes.ensures.value in
    sym (c.loop-place.invariant ∙ stops_at words i _ next (sym c.is_option.ensures ∙ c.if-not-is_option.true))

pub loop-place-preserved : goal.loop-place-preserved
loop-place-preserved c =
    let words = map string_bytes c.args.further.now in
    let i = c.loop-place.place in
    let next = next_word c.args.further.now i _ c.as_bytes.result.now c.loop-place-test.true c.index-further-place.is
    c.as_bytes.ensures.value in
    c.loop-place.invariant ∙ skips_at words i _ next (sym c.is_option.ensures ∙ c.if-not-is_option.false)
