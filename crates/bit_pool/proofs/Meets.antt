-- The meet of two sets, word by word.
use Rattle.std.specs.Prelude.{bit_and}
use Rattle.std.specs.Int.{bit_at}
use Rattle.std.proofs.Common.{◌≡◌, ◌⊎◌, inl, inr, ℕ, ◌/◌, ◌%◌, ◌^◌, ◌<◌, ◌≤◌, min, List, length, take, get_or, ap, ◌∙◌, sym, arith, length-take}
use Rattle.std.proofs.lemmas.Bool.{cases_lt}
use Rattle.std.proofs.lemmas.List.{get_or-take}
use Rattle.std.proofs.lemmas.List.Elements.{All-from_get_or}
use Rattle.std.proofs.lemmas.Nat.{and_le_l}
use Rattle.std.proofs.lemmas.Nat.Bits.{bit_at_and, bit_at-lt}
use Rattle.bit_pool.specs.Bits.{bit_of, HasBit, IsRow, IsMeet}
use Rattle.bit_pool.proofs.Sets.{no_bit_beyond}

module _ (width n : ℕ) (words others met : List ℕ) (row : IsRow width words) (other : IsRow width others) (n_is : length words ≡ n)
    (within : n ≤ length met)
    (entries : (i : ℕ) → i < n → get_or met i 0 ≡ bit_and (get_or words i 0) (get_or others i 0)) where
  length_met : length (take n met) ≡ n
  length_met = let l = length-take n met in omega arith

  met_entry : (i : ℕ) → i < n → get_or (take n met) i 0 ≡ bit_and (get_or words i 0) (get_or others i 0)
  met_entry i h = get_or-take n met i 0 h ∙ entries i h

  met_bit : (number : ℕ) → number / 64 < n → bit_of (take n met) number ≡ min (bit_of words number) (bit_of others number)
  met_bit number h = ap (λ (w : ℕ). bit_at w (number % 64)) (met_entry (number / 64) h) ∙ bit_at_and _ _ _

  pub meets : IsMeet words others (take n met)
  meets number = (to (cases_lt (number / 64) n), from (cases_lt (number / 64) n))
    where
      both : (a b c : ℕ) → c ≡ min a b → c ≡ 1 → a < 2 → b < 2 → (a ≡ 1) × (b ≡ 1)
      both a b c e h l m = (omega arith, omega arith)

      one : (a b c : ℕ) → c ≡ min a b → a ≡ 1 → b ≡ 1 → c ≡ 1
      one a b c e h k = omega arith

      to : (number / 64 < n) ⊎ (n ≤ number / 64) → HasBit (take n met) number → HasBit words number × HasBit others number
      to (inl h) b = both (bit_of words number) (bit_of others number) (bit_of (take n met) number) (met_bit number h) b (bit_at-lt _ _)
          (bit_at-lt _ _)
      to (inr h) b = absurd (no_bit_beyond (take n met) number (let l = length_met in omega arith) b)

      from : (number / 64 < n) ⊎ (n ≤ number / 64) → HasBit words number × HasBit others number → HasBit (take n met) number
      from (inl h) b = one (bit_of words number) (bit_of others number) (bit_of (take n met) number) (met_bit number h) b.0 b.1
      from (inr h) b = absurd (no_bit_beyond words number (omega arith) b.0)

  pub met_row : IsRow width (take n met)
  met_row = record {
    count = length_met ∙ sym n_is ∙ row.count;
    small = All-from_get_or (λ w. w < 2 ^ 64) (take n met) 0 small;
    below = λ number h b. row.below number h ((meets number).0 b).0;
  }
    where
      small : (i : ℕ) → i < length (take n met) → get_or (take n met) i 0 < 2 ^ 64
      small i h =
          let l = length_met in
          let e = met_entry i (omega arith) in
          let a = and_le_l (get_or words i 0) (get_or others i 0) in
          let s = row.small i 0 (omega arith) in
          omega arith
