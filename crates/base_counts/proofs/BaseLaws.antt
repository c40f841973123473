-- Least heights over all vectors are bases, and words tell on which sets they are 0.
use Rattle.std.specs.Prelude.{pos}
use Rattle.std.proofs.Common.{◌≡◌, ◌≢◌, ◌⊎◌, inl, inr, ℕ, ◌<◌, ◌≤◌, ◌==◌, true, List, length, sym, ap, ◌∙◌, subst}
use Rattle.std.proofs.lemmas.Bool.{cases_lt, eqb-true, eq-eqb}
use Rattle.lattice_theory.specs.Vector.{entry}
use Rattle.face_theory.specs.Sets.{in_set}
use Rattle.face_theory.specs.Pairings.{is_zero, function_at}
use Rattle.face_theory.proofs.Sets.{in_set_width, length-numbers_with, in_set-numbers_with}
use Rattle.face_theory.proofs.Climbs.{is_zero-true}
use Rattle.bit_pool.specs.Bits.{bit_of, HasBit, IsSubset}
use Rattle.face_closing.specs.Words.{set_of}
use Rattle.cayley_theory.specs.Bases.{part_in, pairing_with, IsZeroOn}
use Rattle.base_counts.specs.Laws.{TopsAreBases, SetsWithinTight}
use Rattle.base_counts.specs.declared.base.TheConstants.{LOWEST}

pub tops_are_bases_lem : TopsAreBases
tops_are_bases_lem r vs x base long all top = record { parts = long; above = top.above; reached = at }
  where
    at : (j : ℕ) → j < r → (i : ℕ) × (i < length vs) × (part_in (function_at vs i) ≡ j) × (pairing_with vs x base i ≡ pos 0)
    at j l = by (top.reached j (subst (λ (n : ℕ). j < n) (sym long) l))
      where
        by : ((entry base j ≡ LOWEST) × ((i : ℕ) → i < length vs → part_in (function_at vs i) ≢ j))
            ⊎ ((i : ℕ) × (i < length vs) × (part_in (function_at vs i) ≡ j) × (pairing_with vs x base i ≡ pos 0))
            → (i : ℕ) × (i < length vs) × (part_in (function_at vs i) ≡ j) × (pairing_with vs x base i ≡ pos 0)
        by (inl a) = let one = all j l in absurd (a.1 one.0 one.1 one.2)
        by (inr a) = a

-- the numbers of a set of words are those of their bits
within_width : (width : ℕ) (words : List ℕ) (i : ℕ) → in_set (set_of width words) i ≡ true → i < width
within_width width words i t = subst (λ (k : ℕ). i < k) (length-numbers_with width (λ number. bit_of words number == 1)) (in_set_width (set_of width words) i t)

bit_from : (width : ℕ) (words : List ℕ) (i : ℕ) → in_set (set_of width words) i ≡ true → HasBit words i
bit_from width words i t =
    eqb-true (bit_of words i) 1 (sym (in_set-numbers_with width (λ number. bit_of words number == 1) i (within_width width words i t)) ∙ t)

set_from : (width : ℕ) (words : List ℕ) (i : ℕ) → i < width → HasBit words i → in_set (set_of width words) i ≡ true
set_from width words i h b = in_set-numbers_with width (λ number. bit_of words number == 1) i h ∙ eq-eqb (bit_of words i) 1 b

pub sets_within_tight_lem : SetsWithinTight
sets_within_tight_lem vs x base set tight exact below = (to_zero, to_subset)
  where
    to_zero : IsSubset set tight → IsZeroOn vs (set_of (length vs) set) x base
    to_zero s i t = is_zero-true (pairing_with vs x base i) ((exact i).0 (s i (bit_from (length vs) set i t))).1

    to_subset : IsZeroOn vs (set_of (length vs) set) x base → IsSubset set tight
    to_subset z number b = by (cases_lt number (length vs))
      where
        by : (number < length vs) ⊎ (length vs ≤ number) → HasBit tight number
        by (inl h) = (exact number).1 (h, ap is_zero (z number (set_from (length vs) set number h b)))
        by (inr h) = absurd (below number h b)
