-- Letters behind a `-`. This project's own.
use Rattle.std.specs.Prelude.{ℕ, Bool, false, ◌&&◌, List, [], ◌∷◌, length, ◌==◌, nat_le}
use Rattle.std.specs.List.{list_any, list_all}

-- the letter is one of these
abbrev pub is_among : List ℕ → ℕ → Bool
is_among letters letter = list_any (λ (l : ℕ). l == letter) letters

-- `-` and one or more of the letters
abbrev pub is_letter_word : List ℕ → List ℕ → Bool
is_letter_word letters [] = false
is_letter_word letters (first ∷ rest) = (first == 45) && (nat_le 1 (length rest) && list_all (is_among letters) rest)

-- one of the letters stands in a word
abbrev pub has_one_of : List ℕ → List ℕ → Bool
has_one_of letters word = list_any (is_among letters) word

-- one of the letters stands in some word
abbrev pub given : List ℕ → List (List ℕ) → Bool
given letters words = list_any (has_one_of letters) words
