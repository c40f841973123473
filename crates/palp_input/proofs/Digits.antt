-- The number that digits write, digit by digit, up to the bound.
use Rattle.std.proofs.Common.{◌≡◌, ℕ, ◌+◌, ◌-◌, ◌*◌, ◌<◌, min, true, List, length, take, get_or, arith}
use Rattle.std.proofs.lemmas.Bool.Decides.{nat_tests}
use Rattle.std.proofs.lemmas.Int.Digits.{digits_value_more}
use Rattle.std.specs.Char.{digit_value, is_ascii_digit}
use Rattle.std.specs.Str.Parse.{digits_value}
use Rattle.palp_input.specs.Numerals.{bound}

-- one digit more
pub size_step : (w : List ℕ) (i s d : ℕ) → i < length w → is_ascii_digit (get_or w i 0) ≡ true
    → s ≡ min (digits_value 10 (take i w)) bound → d ≡ get_or w i 0 - 48
    → min (s * 10 + d) bound ≡ min (digits_value 10 (take (i + 1) w)) bound
size_step w i s d lt h e k =
    let digit : digit_value (get_or w i 0) ≡ get_or w i 0 - 48 = grind (arith, nat_tests) in
    let more = digits_value_more 10 w i lt in omega arith
