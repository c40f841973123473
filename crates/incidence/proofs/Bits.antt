-- Sets that words tell, with one number more.
use Rattle.std.specs.Prelude.{bit_or, slice_set, IsTrue}
use Rattle.std.specs.Int.{bit_at, w64}
use Rattle.std.proofs.Common.{◌≡◌, ◌≢◌, ◌⊎◌, inl, inr, ⊎_elim, ◌↔◌, ℕ, zero, suc, ◌+◌, ◌*◌, ◌/◌, ◌%◌, ◌^◌, ◌<◌, ◌≤◌, Bool, List, length, get_or, refl, ap, sym, ◌∙◌, subst, arith, replicate}
use Rattle.std.proofs.lemmas.Bool.{cases_lt}
use Rattle.std.proofs.lemmas.Bool.Decides.{eqb_tells}
use Rattle.std.proofs.lemmas.List.{get_or-set_same, get_or-set_other}
use Rattle.std.proofs.lemmas.Nat.Bits.{bit_at_set_same, bit_at_set_other, bit_at-zero}
use Rattle.bit_pool.specs.Bits.{HasBit}
use Rattle.incidence.specs.Incidences.{HasExactly}

same_or_apart : (a b : ℕ) → (a ≡ b) ⊎ (a ≢ b)
same_or_apart a b = ⊎_elim (λ h. inl h.1) (λ h. inr h.1) (eqb_tells a b)

module _ (words : List ℕ) (number : ℕ) (within : number / 64 < length words) where
  -- the word with the bit
  with_bit : ℕ
  with_bit = bit_or (get_or words (number / 64) 0) (1 * 2 ^ (number % 64) % 18446744073709551616)

  abbrev changed : List ℕ
  changed = slice_set words (number / 64) (bit_or (get_or words (number / 64) 0) (1 * 2 ^ (number % 64) % 18446744073709551616))

  there_bit : bit_at (get_or changed (number / 64) 0) (number % 64) ≡ 1
  there_bit = ap (λ (w : ℕ). bit_at w (number % 64)) (get_or-set_same words (number / 64) (bit_or (get_or words (number / 64) 0) (1 * 2 ^ (number % 64) % 18446744073709551616)) 0 within)
      ∙ bit_at_set_same w64 (get_or words (number / 64) 0) (number % 64) (omega arith)

  same_word : (k place : ℕ) → place ≢ number % 64 → k ≡ number / 64 → bit_at (get_or changed k 0) place ≡ bit_at (get_or words k 0) place
  same_word k place n e = subst (λ (j : ℕ). bit_at (get_or changed j 0) place ≡ bit_at (get_or words j 0) place) (sym e)
      (ap (λ (w : ℕ). bit_at w place) (get_or-set_same words (number / 64) (bit_or (get_or words (number / 64) 0) (1 * 2 ^ (number % 64) % 18446744073709551616)) 0 within)
      ∙ bit_at_set_other w64 (get_or words (number / 64) 0) (number % 64) (omega arith) place n)

  other_word : (k place : ℕ) → k ≢ number / 64 → bit_at (get_or changed k 0) place ≡ bit_at (get_or words k 0) place
  other_word k place n = ap (λ (w : ℕ). bit_at w place)
      (get_or-set_other words (number / 64) k (bit_or (get_or words (number / 64) 0) (1 * 2 ^ (number % 64) % 18446744073709551616)) 0 n)

  kept : (n : ℕ) → n ≢ number → bit_at (get_or changed (n / 64) 0) (n % 64) ≡ bit_at (get_or words (n / 64) 0) (n % 64)
  kept n a = ⊎_elim
      (λ (e : n / 64 ≡ number / 64). same_word (n / 64) (n % 64) (λ f. a (omega (arith, e, f))) e)
      (λ (d : n / 64 ≢ number / 64). other_word (n / 64) (n % 64) d)
      (same_or_apart (n / 64) (number / 64))

  pub put : (n : ℕ) → HasBit changed n ↔ (HasBit words n ⊎ (n ≡ number))
  put n = by (same_or_apart n number)
    where
      by : (n ≡ number) ⊎ (n ≢ number) → HasBit changed n ↔ (HasBit words n ⊎ (n ≡ number))
      by (inl e) = (λ _. inr e, λ _. subst (HasBit changed) (sym e) there_bit)
      by (inr d) = (λ b. inl (sym (kept n d) ∙ b), back)
        where
          back : HasBit words n ⊎ (n ≡ number) → HasBit changed n
          back (inl b) = kept n d ∙ b
          back (inr e) = absurd (d e)

-- words that are all 0 tell the empty set
zeros_at : (n i z : ℕ) → get_or (replicate n z) i z ≡ z
zeros_at zero i z = refl
zeros_at (suc n) zero z = refl
zeros_at (suc n) (suc i) z = zeros_at n i z

pub none_at_first : (n z : ℕ) (test : ℕ → Bool) → z ≡ 0 → HasExactly 0 test (replicate n z)
none_at_first n z test e k = (
  λ b.
      let zeros : get_or (replicate n z) (k / 64) 0 ≡ 0 = subst (λ (d : ℕ). get_or (replicate n z) (k / 64) d ≡ d) e (zeros_at n (k / 64) z) in
      let same : bit_at (get_or (replicate n z) (k / 64) 0) (k % 64) ≡ bit_at 0 (k % 64) = ap (λ (w : ℕ). bit_at w (k % 64)) zeros in
      let none = bit_at-zero (k % 64) in
      absurd (omega (arith, b, same, none)),
  λ h. absurd (omega (arith, h.0)),
)

-- one more number, which passes the test or doesn't
pub exact_with : (n : ℕ) (test : ℕ → Bool) (words next : List ℕ) → HasExactly n test words
    → ((k : ℕ) → HasBit next k ↔ (HasBit words k ⊎ (k ≡ n))) → IsTrue (test n) → HasExactly (n + 1) test next
exact_with n test words next exact put_in passes k = (
  λ b. ⊎_elim
      (λ (o : HasBit words k). (let l = ((exact k).0 o).0 in omega arith, ((exact k).0 o).1))
      (λ (e : k ≡ n). (omega arith, subst (λ (j : ℕ). IsTrue (test j)) (sym e) passes))
      ((put_in k).0 b),
  λ h. (put_in k).1 (⊎_elim
      (λ (e : k ≡ n). inr e)
      (λ (d : k ≢ n). inl ((exact k).1 (below k n h.0 d, h.1)))
      (same_or_apart k n)),
)
  where
    below : (k n : ℕ) → k < n + 1 → k ≢ n → k < n
    below k n l d = ⊎_elim (λ (s : k < n). s) (λ (s : n ≤ k). absurd (d (omega arith))) (cases_lt k n)

pub exact_without : (n : ℕ) (test : ℕ → Bool) (words : List ℕ) → HasExactly n test words → (IsTrue (test n) → ⊥) → HasExactly (n + 1) test words
exact_without n test words exact none k = (
  λ b. (let l = ((exact k).0 b).0 in omega arith, ((exact k).0 b).1),
  λ h. ⊎_elim
      (λ (l : k < n). (exact k).1 (l, h.1))
      (λ (l : n ≤ k). let e : k ≡ n = (let s = h.0 in omega arith) in absurd (none (subst (λ (j : ℕ). IsTrue (test j)) e h.1)))
      (cases_lt k n),
)
