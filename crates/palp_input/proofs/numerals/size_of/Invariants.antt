use Rattle.std.proofs.Common.{◌≡◌, take, drop, min}
use Rattle.std.specs.Str.{all_ascii_digits}
use Rattle.std.specs.Str.Parse.{digits_value}
use Rattle.palp_input.specs.Numerals.{bound}
use Rattle.palp_input.proofs.numerals.size_of.Given as goal

abbrev pub invariant-loop-digit : goal.invariant-loop-digit
invariant-loop-digit l = record {
  written : l.size ≡ min (digits_value 10 (take l.digit-index l.digits)) bound;
  rest : all_ascii_digits l.digits ≡ all_ascii_digits (drop l.digit-index l.digits);
}
