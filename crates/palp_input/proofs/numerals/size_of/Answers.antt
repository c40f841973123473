use Rattle.std.proofs.Common.{◌+◌, Bool, ◌&&◌, drop, ap, sym, ◌∙◌}
use Rattle.std.proofs.lemmas.List.{at_drop_more}
use Rattle.std.specs.Str.{all_ascii_digits}
use Rattle.palp_input.proofs.Digits.{size_step}
use Rattle.palp_input.proofs.numerals.size_of.Goals as goal

pub loop-digit-preserved : goal.loop-digit-preserved
loop-digit-preserved c =
    let is_digit = sym c.is_ascii_digit.ensures.value ∙ c.if-not-is_ascii_digit.false in
    let digits = c.args.digits.now in
    let i = c.loop-digit.digit-index in
    record {
      written = c.min-size.ensures ∙ size_step digits i _ _ c.loop-digit-test.true is_digit c.loop-digit.invariant.written c.from.ensures;
      rest = c.loop-digit.invariant.rest ∙ (at_drop_more all_ascii_digits digits i 0 c.loop-digit-test.true
          ∙ ap (λ (b : Bool). b && all_ascii_digits (drop (i + 1) digits)) is_digit);
    }
