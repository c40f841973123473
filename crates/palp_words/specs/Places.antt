-- The word in the place of a number, from a place in the list of words on, which only the code and its
-- proofs use: what the words mean is in Words. This project's own.
use Rattle.std.specs.Prelude.{ℕ, List, [], ◌∷◌, drop, Option, Some, if◌then◌else◌}
use Rattle.palp_words.specs.Numbers.{number_fault, number_of}
use Rattle.palp_words.specs.Words.{is_size_word}
use Rattle.palp_words.specs.declared.fault.WordKind.{WordKind}
use Rattle.palp_words.specs.declared.fault.WordKind.TheVariants.{Missing, Flag}

-- the fault of the first word, in the place of a number from low to high
abbrev pub first_number_fault : ℕ → ℕ → List (List ℕ) → Option WordKind
first_number_fault low high [] = Some Missing
first_number_fault low high (word ∷ words) = number_fault low high word

-- the number that the first word writes
abbrev pub first_number : List (List ℕ) → ℕ
first_number [] = 0
first_number (word ∷ words) = number_of word

-- the fault of a word in the place of the `-w` word
abbrev pub size_fault : List ℕ → Option WordKind
size_fault word = if is_size_word word then number_fault 1 5 (drop 2 word) else Some Flag

-- the fault of the first word, in the place of the `-w` word
abbrev pub first_size_fault : List (List ℕ) → Option WordKind
first_size_fault [] = Some Missing
first_size_fault (word ∷ words) = size_fault word

-- the number behind the `-w` of the first word
abbrev pub first_size : List (List ℕ) → ℕ
first_size [] = 0
first_size (word ∷ words) = number_of (drop 2 word)
