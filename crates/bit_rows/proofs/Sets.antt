-- Rows of bits as sets of numbers.
use Rattle.std.specs.Prelude.{bit_and, bit_or}
use Rattle.std.specs.Int.{bit_at, w128}
use Rattle.std.proofs.Common.{◌≡◌, ◌≢◌, ◌⊎◌, inl, inr, ⊎_elim, ◌↔◌, ℕ, ◌*◌, ◌%◌, ◌^◌, ◌<◌, min, ap, sym, ◌∙◌, arith}
use Rattle.std.proofs.lemmas.Bool.Decides.{eqb_tells}
use Rattle.std.proofs.lemmas.Nat.Bits.{bit_at_and, bit_at-lt, bit_at_set_same, bit_at_set_other, same_from_bits}
use Rattle.bit_rows.specs.Rows.{HasIndex, IsPartOf}

-- two numbers are the same or not
same_or_apart : (a b : ℕ) → (a ≡ b) ⊎ (a ≢ b)
same_or_apart a b = ⊎_elim (λ h. inl h.1) (λ h. inr h.1) (eqb_tells a b)

-- one number more
pub added : (row index : ℕ) → index < 128 → (other : ℕ)
    → HasIndex (bit_or row (1 * 2 ^ index % 2 ^ 128)) other ↔ (HasIndex row other ⊎ (other ≡ index))
added row index h other = by (same_or_apart other index)
  where
    with_it : ℕ
    with_it = bit_or row (1 * 2 ^ index % 2 ^ 128)

    by : (other ≡ index) ⊎ (other ≢ index) → HasIndex with_it other ↔ (HasIndex row other ⊎ (other ≡ index))
    by (inl e) = (λ _. inr e, λ _. ap (bit_at with_it) e ∙ bit_at_set_same w128 row index h)
    by (inr n) =
        let same = bit_at_set_other w128 row index h other n in
        (λ b. inl (sym same ∙ b), back same)
      where
        back : bit_at with_it other ≡ bit_at row other → HasIndex row other ⊎ (other ≡ index) → HasIndex with_it other
        back same (inl b) = same ∙ b
        back same (inr e) = absurd (n e)

-- the numbers of both
both_bits : (a b c : ℕ) → c ≡ min a b → a < 2 → b < 2 → (c ≡ 1) ↔ ((a ≡ 1) × (b ≡ 1))
both_bits a b c e l m = (λ h. (omega arith, omega arith), λ h. let first = h.0 in let second = h.1 in omega arith)

pub met : (row other index : ℕ) → HasIndex (bit_and row other) index ↔ (HasIndex row index × HasIndex other index)
met row other index =
    both_bits (bit_at row index) (bit_at other index) (bit_at (bit_and row other) index) (bit_at_and row other index) (bit_at-lt row index)
    (bit_at-lt other index)

-- the meet with the other set is the set itself exactly where it is part of the other
pub part_from_meet : (row other : ℕ) → bit_and row other ≡ row → IsPartOf row other
part_from_meet row other e index h = ((met row other index).0 (ap (λ (r : ℕ). bit_at r index) e ∙ h)).1

pub meet_from_part : (row other : ℕ) → IsPartOf row other → bit_and row other ≡ row
meet_from_part row other part = same_from_bits (bit_and row other) row (λ i. bit_at_and row other i ∙ smaller (bit_at row i) (bit_at other i) (bit_at-lt row i) (part i))
  where
    smaller : (a b : ℕ) → a < 2 → (a ≡ 1 → b ≡ 1) → min a b ≡ a
    smaller a b l h = by (same_or_apart a 1)
      where
        by : (a ≡ 1) ⊎ (a ≢ 1) → min a b ≡ a
        by (inl e) = let f = h e in omega arith
        by (inr n) = least a b l n
          where
            least : (a b : ℕ) → a < 2 → a ≢ 1 → min a b ≡ a
            least a b l n = omega arith

-- sets are compared and met by what is in them
pub part_of_meet : (row other third : ℕ) → IsPartOf (bit_and row other) third → (index : ℕ) → HasIndex row index → HasIndex other index
    → HasIndex third index
part_of_meet row other third part index h k = part index ((met row other index).1 (h, k))
