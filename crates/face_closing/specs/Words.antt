-- Sets of numbers as words of 64 bits, of which some may be more than the numbers need. This project's own.
use Rattle.std.specs.Prelude.{◌≡◌, ◌↔◌, ℕ, ◌^◌, ◌<◌, ◌≤◌, ◌==◌, Bool, List, [], ◌∷◌, length, bit_and}
use Rattle.std.specs.declared.cmp.Ordering.{Ordering}
use Rattle.std.specs.declared.cmp.Ordering.TheVariants.{Less, Equal, Greater}
use Rattle.std.specs.List.{All}
use Rattle.face_theory.specs.Sets.{numbers_with}
use Rattle.bit_pool.specs.Bits.{bit_of, HasBit}

-- the numbers below the width that are in the set
abbrev pub set_of : ℕ → List ℕ → List Bool
set_of width words = numbers_with width (λ number. bit_of words number == 1)

-- so many words of a set of numbers below the width
pub record IsSetOf (count width : ℕ) (words : List ℕ) : Type 0 where
  pub many : length words ≡ count
  pub small : All (λ w. w < 2 ^ 64) words
  pub below : (number : ℕ) → width ≤ number → HasBit words number → ⊥

-- what two sets have in common, word by word
abbrev pub meet_words : List ℕ → List ℕ → List ℕ
meet_words [] others = []
meet_words (w ∷ words) [] = []
meet_words (w ∷ words) (o ∷ others) = bit_and w o ∷ meet_words words others

-- the first number in which two sets differ is in this one: where neither is within the other, this one's ascending list of numbers comes first
pub record IsEarlier (words others : List ℕ) : Type 0 where
  pub first : ℕ
  pub here : HasBit words first
  pub missing : HasBit others first → ⊥
  pub same : (number : ℕ) → number < first → HasBit words number ↔ HasBit others number

-- how two sets compare so
abbrev pub IsCompared : List ℕ → List ℕ → Ordering → Type 0
IsCompared words others Less = IsEarlier words others
IsCompared words others Equal = words ≡ others
IsCompared words others Greater = IsEarlier others words
