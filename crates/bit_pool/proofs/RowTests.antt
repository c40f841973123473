-- Words that pass a test are those of a set of numbers below the width.
use Rattle.std.specs.Int.{bit_at}
use Rattle.std.proofs.Common.{◌≡◌, ◌⊎◌, inl, inr, ℕ, ◌-◌, ◌*◌, ◌/◌, ◌%◌, ◌^◌, ◌<◌, ◌≤◌, List, length, get_or, ap, arith}
use Rattle.std.proofs.Math.Nat.{mod-add-div', mod-lt}
use Rattle.std.proofs.lemmas.Bool.{cases_lt}
use Rattle.std.proofs.lemmas.List.Elements.{All-from_get_or}
use Rattle.std.proofs.lemmas.Nat.{pow_pos}
use Rattle.std.proofs.lemmas.Nat.Bits.{bit_at_above}
use Rattle.bit_pool.specs.Bits.{words_for, HasBit, IsRow}
use Rattle.bit_pool.proofs.Sets.{no_bit_beyond}

-- the last word has no bit from a place on
last_word : (width number : ℕ) (words : List ℕ) → length words ≡ words_for width → get_or words (length words - 1) 0 < 2 ^ (width % 64)
    → 0 < width % 64
    → width ≤ number → number / 64 < length words → HasBit words number → ⊥
last_word width number words count small some h within bit =
    let last : number / 64 ≡ length words - 1 = omega arith in
    let place : width % 64 ≤ number % 64 = omega arith in
    let none = bit_at_above (get_or words (length words - 1) 0) (width % 64) (number % 64) small place in
    let here : bit_at (get_or words (number / 64) 0) (number % 64) ≡ bit_at (get_or words (length words - 1) 0) (number % 64) =
    ap (λ (k : ℕ). bit_at (get_or words k 0) (number % 64)) last in
    omega (arith, none, here, bit)

pub row_from_test : (width : ℕ) (words : List ℕ) → length words ≡ words_for width → ((i : ℕ) → get_or words i 0 < 2 ^ 64)
    → (width % 64 ≡ 0) ⊎ (get_or words (length words - 1) 0 < 2 ^ (width % 64)) → IsRow width words
row_from_test width words count small last = record {
  count = count;
  small = All-from_get_or (λ w. w < 2 ^ 64) words 0 (λ i h. small i);
  below = λ number h bit. by number h bit (cases_lt (number / 64) (length words)) (cases_lt 0 (width % 64)) last;
}
  where
    by : (number : ℕ) → width ≤ number → HasBit words number → (number / 64 < length words) ⊎ (length words ≤ number / 64)
        → (0 < width % 64) ⊎ (width % 64 ≤ 0) → (width % 64 ≡ 0) ⊎ (get_or words (length words - 1) 0 < 2 ^ (width % 64)) → ⊥
    by number h bit (inr past) s l = no_bit_beyond words number past bit
    by number h bit (inl within) (inl some) (inr l) = last_word width number words count l some h within bit
    by number h bit (inl within) (inl some) (inl e) = omega (arith, some, e)
    by number h bit (inl within) (inr none) l = no_bit_beyond words number (omega arith) bit

-- where the quotient is 0, the number is below the divisor
pub below_divisor : (w m : ℕ) → 0 < m → w / m ≡ 0 → w < m
below_divisor w m some e =
    let whole = mod-add-div' w m in
    let none : w / m * m ≡ 0 * m = ap (λ (q : ℕ). q * m) e in
    let rest = mod-lt w some in
    omega arith

pub shifted_out : (w k : ℕ) → w / 2 ^ k ≡ 0 → w < 2 ^ k
shifted_out w k e = below_divisor w (2 ^ k) (pow_pos k) e
