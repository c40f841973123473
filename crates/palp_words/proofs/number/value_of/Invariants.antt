use Rattle.std.proofs.Common.{◌≡◌, take, drop}
use Rattle.std.specs.Str.{all_ascii_digits}
use Rattle.std.specs.Str.Parse.{digits_value, AllDigits}
use Rattle.palp_words.proofs.number.value_of.Given as goal

abbrev pub invariant-loop-digit : goal.invariant-loop-digit
invariant-loop-digit l = record {
  written : l.value ≡ digits_value 10 (take l.digit-index l.digits);
  digits : AllDigits 10 (take l.digit-index l.digits);
  rest : all_ascii_digits l.digits ≡ all_ascii_digits (drop l.digit-index l.digits);
}
