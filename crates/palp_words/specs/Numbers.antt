-- Number words, and the words in the place of a number. This project's own.
use Rattle.std.specs.Prelude.{ℕ, Bool, ◌&&◌, List, length, Option, Some, None, if◌then◌else◌, nat_le}
use Rattle.std.specs.Str.{all_ascii_digits}
use Rattle.std.specs.Str.Parse.{digits_value}
use Rattle.palp_words.specs.declared.fault.WordKind.{WordKind}
use Rattle.palp_words.specs.declared.fault.WordKind.TheVariants.{Number, Range}

-- the most digits of a number word, and the largest number that they write
abbrev pub most_digits : ℕ
most_digits = 9

abbrev pub largest : ℕ
largest = 999_999_999

-- one to nine digits
abbrev pub is_number_word : List ℕ → Bool
is_number_word word = nat_le 1 (length word) && (nat_le (length word) most_digits && all_ascii_digits word)

-- the number that a number word writes
abbrev pub number_of : List ℕ → ℕ
number_of word = digits_value 10 word

-- the fault of a word in the place of a number from low to high
abbrev pub number_fault : ℕ → ℕ → List ℕ → Option WordKind
number_fault low high word =
    if is_number_word word
    then (if nat_le low (number_of word) && nat_le (number_of word) high then None else Some Range)
    else Some Number
