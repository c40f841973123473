-- Rows of one small word.
use Rattle.std.specs.Int.{bit_at}
use Rattle.std.proofs.Common.{◌≡◌, ◌⊎◌, inl, inr, ℕ, zero, suc, ◌/◌, ◌%◌, ◌^◌, ◌<◌, ◌≤◌, List, [], ◌∷◌, get_or, ap, subst, sym, arith}
use Rattle.std.proofs.lemmas.Bool.{cases_lt}
use Rattle.std.proofs.lemmas.Nat.Bits.{bit_at_above}
use Rattle.bit_pool.specs.Bits.{HasBit}
use Rattle.bit_pool.proofs.Sets.{no_bit_beyond}
use Rattle.base_counts.specs.Visited.{AreWithin}

-- a word below 2^k tells no number from k on
small_word : (w k number : ℕ) → w < 2 ^ k → k ≤ number → HasBit (w ∷ []) number → ⊥
small_word w k number small le bit = by (cases_lt (number / 64) 1)
  where
    by : (number / 64 < 1) ⊎ (1 ≤ number / 64) → ⊥
    by (inr past) = no_bit_beyond (w ∷ []) number past bit
    by (inl within) =
        let first : number / 64 ≡ 0 = omega (arith, within) in
        let place : k ≤ number % 64 = omega (arith, first, le) in
        let none = bit_at_above w k (number % 64) small place in
        let here : bit_at (get_or (w ∷ []) (number / 64) 0) (number % 64) ≡ bit_at w (number % 64) =
        ap (λ (j : ℕ). bit_at (get_or (w ∷ []) j 0) (number % 64)) first in
        absurd (omega (arith, none, here, bit))

-- so two rows of one such word each
pub two_within : (many a b : ℕ) (rows : List (List ℕ)) → rows ≡ (a ∷ []) ∷ (b ∷ []) ∷ [] → a < 2 ^ many → b < 2 ^ many → AreWithin many rows
two_within many a b rows e first second = subst (AreWithin many) (sym e) at
  where
    at : AreWithin many ((a ∷ []) ∷ (b ∷ []) ∷ [])
    at zero h number le bit = small_word a many number first le bit
    at (suc zero) h number le bit = small_word b many number second le bit
    at (suc (suc k)) h number le bit = absurd (omega (arith, h))
