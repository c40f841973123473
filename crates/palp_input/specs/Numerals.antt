-- Tokens that are numbers. This project's own.
use Rattle.std.specs.Prelude.{ℕ, ℤ, pos, neg_ℤ, Bool, ◌&&◌, List, [], ◌∷◌, length, if◌then◌else◌, ◌==◌, nat_le, nat_lt}
use Rattle.std.specs.Str.{all_ascii_digits}
use Rattle.std.specs.Str.Parse.{digits_value}
use Rattle.palp_input.specs.declared.numerals.TheConstants.{BOUND}
use Rattle.palp_input.specs.declared.numerals.Numeral.{Numeral}
use Rattle.palp_input.specs.declared.numerals.Numeral.TheVariants.{NoNumber, TooLarge, Number}

-- numbers are smaller than this in absolute value
abbrev pub bound : ℕ
bound = BOUND

-- one or more digits
abbrev pub is_digits : List ℕ → Bool
is_digits bytes = nat_le 1 (length bytes) && all_ascii_digits bytes

-- what digits write, with its sign
abbrev pub numeral_of_digits : (ℕ → ℤ) → List ℕ → Numeral
numeral_of_digits sign digits =
    if is_digits digits
    then (if nat_lt (digits_value 10 digits) bound then Number (sign (digits_value 10 digits)) else TooLarge)
    else NoNumber

-- digits, with one `-` in front where the number is negative
abbrev pub numeral_of : List ℕ → Numeral
numeral_of [] = NoNumber
numeral_of (first ∷ rest) =
    if first == 45 then numeral_of_digits (λ n. neg_ℤ (pos n)) rest else numeral_of_digits pos (first ∷ rest)
