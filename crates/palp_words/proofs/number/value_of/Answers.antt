use Rattle.std.proofs.Common.{◌+◌, Bool, ◌&&◌, drop, ap, sym, ◌∙◌, arith}
use Rattle.std.proofs.lemmas.Int.Digits.{digits_more}
use Rattle.std.proofs.lemmas.List.{at_drop_more}
use Rattle.std.specs.Str.{all_ascii_digits}
use Rattle.palp_words.proofs.Digits.{value_small, value_step}
use Rattle.palp_words.proofs.number.value_of.Goals as goal

pub overflow_mul-value : goal.overflow_mul-value
overflow_mul-value c =
    let s = value_small c.args.digits.now c.loop-digit.digit-index c.loop-digit.invariant.digits c.loop-digit-test.true c.requires in
    omega arith

pub overflow_add-value : goal.overflow_add-value
overflow_add-value c =
    let s = value_small c.args.digits.now c.loop-digit.digit-index c.loop-digit.invariant.digits c.loop-digit-test.true c.requires in
    omega arith

pub loop-digit-preserved : goal.loop-digit-preserved
loop-digit-preserved c =
    let is_digit = sym c.is_ascii_digit.ensures.value ∙ c.if-not-is_ascii_digit.false in
    let digits = c.args.digits.now in
    let i = c.loop-digit.digit-index in
    record {
      written = value_step digits i _ _ c.loop-digit-test.true is_digit c.loop-digit.invariant.written c.from.ensures;
      digits = digits_more 10 digits i c.loop-digit-test.true c.loop-digit.invariant.digits
          (omega (arith, c.if-not-is_ascii_digit.ensures.bound));
      rest = c.loop-digit.invariant.rest ∙ (at_drop_more all_ascii_digits digits i 0 c.loop-digit-test.true
          ∙ ap (λ (b : Bool). b && all_ascii_digits (drop (i + 1) digits)) is_digit);
    }
