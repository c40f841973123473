-- Sets of numbers that words tell: subsets and meets, word by word.
use Rattle.std.proofs.Common.{◌≡◌, ◌⊎◌, inl, inr, ℕ, zero, suc, ◌+◌, ◌*◌, ◌/◌, ◌%◌, ◌^◌, ◌<◌, ◌≤◌, min, List, length, slice_index_or, refl, sym, ap, ◌∙◌, subst, arith}
use Rattle.std.specs.Prelude.{bit_and}
use Rattle.std.specs.Int.{bit_at}
use Rattle.std.proofs.lemmas.Bool.{cases_lt}
use Rattle.std.proofs.lemmas.List.{get_or_past}
use Rattle.std.proofs.lemmas.Nat.Bits.{bit_at_and, bit_at-lt, bit_at-zero, bit_at_above, same_from_bits}
use Rattle.bit_pool.specs.Bits.{HasBit, IsSubset}

-- a bit is 0 or 1
pub zero_or_one : (b : ℕ) → b < 2 → (b ≡ 0) ⊎ (b ≡ 1)
zero_or_one zero h = inl refl
zero_or_one (suc zero) h = inr refl
zero_or_one (suc (suc b)) h = absurd (omega arith)

-- where two words meet in the first one, its bits are in the second
pub in_second : (x y i : ℕ) → bit_and x y ≡ x → bit_at x i ≡ 1 → bit_at y i ≡ 1
in_second x y i e h =
    let both : min (bit_at x i) (bit_at y i) ≡ 1 = sym (bit_at_and x y i) ∙ ap (λ (z : ℕ). bit_at z i) e ∙ h in
    let below = bit_at-lt y i in
    one (bit_at x i) (bit_at y i) both below
  where
    one : (a b : ℕ) → min a b ≡ 1 → b < 2 → b ≡ 1
    one a b e l = omega arith

-- and conversely
pub meet_first : (x y : ℕ) → ((i : ℕ) → bit_at x i ≡ 1 → bit_at y i ≡ 1) → bit_and x y ≡ x
meet_first x y h = same_from_bits (bit_and x y) x (λ i. bit_at_and x y i ∙ by i (zero_or_one (bit_at x i) (bit_at-lt x i)))
  where
    by : (i : ℕ) → (bit_at x i ≡ 0) ⊎ (bit_at x i ≡ 1) → min (bit_at x i) (bit_at y i) ≡ bit_at x i
    by i (inl e) = omega arith
    by i (inr e) = let f = h i e in omega arith

-- all numbers of the words below i are in the other set
abbrev pub IsSubsetBelow : ℕ → List ℕ → List ℕ → Type 0
IsSubsetBelow i words others = (number : ℕ) → number / 64 < i → HasBit words number → HasBit others number

-- one word more
pub subset_more : (i : ℕ) (words others : List ℕ) → IsSubsetBelow i words others
    → bit_and (slice_index_or words i 0) (slice_index_or others i 0) ≡ slice_index_or words i 0 → IsSubsetBelow (i + 1) words others
subset_more i words others below e number h bit = by (cases_lt (number / 64) i)
  where
    by : (number / 64 < i) ⊎ (i ≤ number / 64) → HasBit others number
    by (inl l) = below number l bit
    by (inr l) = here (number / 64) (omega arith) bit
      where
        here : (k : ℕ) → k ≡ i → bit_at (slice_index_or words k 0) (number % 64) ≡ 1 → bit_at (slice_index_or others k 0) (number % 64) ≡ 1
        here k s b = in_second (slice_index_or words k 0) (slice_index_or others k 0) (number % 64)
            (subst (λ (m : ℕ). bit_and (slice_index_or words m 0) (slice_index_or others m 0) ≡ slice_index_or words m 0) (sym s) e) b

-- beyond the words there is no bit
pub no_bit_beyond : (words : List ℕ) (number : ℕ) → length words ≤ number / 64 → HasBit words number → ⊥
no_bit_beyond words number h bit = none (slice_index_or words (number / 64) 0) (get_or_past words (number / 64) 0 h) bit
  where
    none : (w : ℕ) → w ≡ 0 → bit_at w (number % 64) ≡ 1 → ⊥
    none w e b =
        let zero_bit = bit_at-zero (number % 64) in
        let same : bit_at w (number % 64) ≡ bit_at 0 (number % 64) = ap (λ (z : ℕ). bit_at z (number % 64)) e in
        omega (arith, zero_bit, same, b)

-- all words are compared
pub subset_all : (i : ℕ) (words others : List ℕ) → length words ≤ i → IsSubsetBelow i words others → IsSubset words others
subset_all i words others past below number bit = by (cases_lt (number / 64) i)
  where
    by : (number / 64 < i) ⊎ (i ≤ number / 64) → HasBit others number
    by (inl l) = below number l bit
    by (inr l) = absurd (no_bit_beyond words number (omega arith) bit)

-- a word of a subset meets the other one in itself
pub subset_word : (i : ℕ) (words others : List ℕ) → slice_index_or words i 0 < 2 ^ 64 → IsSubset words others
    → bit_and (slice_index_or words i 0) (slice_index_or others i 0) ≡ slice_index_or words i 0
subset_word i words others small subset = meet_first (slice_index_or words i 0) (slice_index_or others i 0) at
  where
    at : (j : ℕ) → bit_at (slice_index_or words i 0) j ≡ 1 → bit_at (slice_index_or others i 0) j ≡ 1
    at j b = by (cases_lt j 64)
      where
        by : (j < 64) ⊎ (64 ≤ j) → bit_at (slice_index_or others i 0) j ≡ 1
        by (inl l) =
            let word : (j + i * 64) / 64 ≡ i = omega arith in
            let place : (j + i * 64) % 64 ≡ j = omega arith in
            let bit = subset (j + i * 64) (rw (word, place) b) in
            rw (word, place) at bit
        by (inr l) = absurd (let high = bit_at_above (slice_index_or words i 0) 64 j small l in omega (arith, high, b))
