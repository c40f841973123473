-- A guide as a worked example. This project's own.
use Rattle.std.specs.Prelude.{ℕ, zero, suc, Bool, true, false, List, [], ◌∷◌}
use Rattle.walk_theory.specs.Walks.{Guide}

-- the last number of a list; 0 where there is none
abbrev pub last_number : List ℕ → ℕ
last_number [] = 0
last_number (v ∷ []) = v
last_number (v ∷ w ∷ x) = last_number (w ∷ x)

-- three numbers at the first place, 0, 1 and 2; behind each number itself and the next one
abbrev pub three_then_two : List ℕ → ℕ
three_then_two [] = 3
three_then_two (v ∷ x) = 2

-- the beginning with 1 alone
abbrev pub is_one : List ℕ → Bool
is_one (suc zero ∷ []) = true
is_one x = false

-- all lists but 0 1
abbrev pub isnt_zero_one : List ℕ → Bool
isnt_zero_one (zero ∷ suc zero ∷ []) = false
isnt_zero_one x = true

abbrev pub short_steps : Guide
short_steps = record { first = last_number; count = three_then_two; given_up = is_one; kept = isnt_zero_one }
