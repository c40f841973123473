-- The number that digits write, digit by digit.
use Rattle.std.proofs.Common.{◌≡◌, ℕ, ◌+◌, ◌-◌, ◌*◌, ◌<◌, ◌≤◌, true, List, length, take, get_or, arith, length-take}
use Rattle.std.proofs.lemmas.Bool.Decides.{nat_tests}
use Rattle.std.proofs.lemmas.Int.Digits.{digits_value_more}
use Rattle.std.proofs.lemmas.Str.Parse.{digits_value_short, numerals_by_value, tells_digits}
use Rattle.std.specs.Char.{digit_value, is_ascii_digit}
use Rattle.std.specs.Str.Parse.{digits_value, AllDigits}

-- at most eight digits write less than 10^8
pub value_small : (w : List ℕ) (i : ℕ) → AllDigits 10 (take i w) → i < length w → length w ≤ 9
    → digits_value 10 (take i w) < 100000000
value_small w i h a b =
    digits_value_short (numerals_by_value (AllDigits 10) tells_digits) (take i w) 8 h (simp length-take (omega arith))

-- one digit more
pub value_step : (w : List ℕ) (i v d : ℕ) → i < length w → is_ascii_digit (get_or w i 0) ≡ true
    → v ≡ digits_value 10 (take i w) → d ≡ get_or w i 0 - 48 → v * 10 + d ≡ digits_value 10 (take (i + 1) w)
value_step w i v d lt h e k =
    let digit : digit_value (get_or w i 0) ≡ get_or w i 0 - 48 = grind (arith, nat_tests) in
    let more = digits_value_more 10 w i lt in omega arith
