-- How a point is counted by the degree of its base. This project's own.
use Rattle.std.specs.Prelude.{◌≡◌, ℕ, ◌<◌, ◌≤◌, List, length, ℤ, pos}
use Rattle.lattice_theory.specs.Affine.{Affine}
use Rattle.bit_pool.specs.Bits.{HasBit}
use Rattle.face_closing.specs.Words.{set_of}
use Rattle.face_theory.specs.Pairings.{is_zero}
use Rattle.incidence.specs.Incidences.{HasExactly}
use Rattle.cayley_theory.specs.Counts.{sum_of}
use Rattle.cayley_theory.specs.Bases.{HasBaseOf, IsBase, Number, pairing_with}
use Rattle.base_counts.specs.Counting.{set_at, count_at}
use Rattle.base_counts.specs.declared.counts.TheConstants.{DEGREES}

-- no row tells a number above those of the vectors
abbrev pub AreWithin : ℕ → List (List ℕ) → Type 0
AreWithin many rows = (k : ℕ) → k < length rows → (number : ℕ) → many ≤ number → HasBit (set_at rows k) number → ⊥

-- the base of x has degree l, and the vectors of the k-th set pair to 0 with it
abbrev pub HasBaseOn : ℕ → List Affine → List (List ℕ) → ℕ → ℕ → List ℤ → Type 0
HasBaseOn r vs rows k l x = HasBaseOf r vs (set_of (length vs) (set_at rows k)) l x

-- the base of x has degree l, and the words tell the vectors that pair to 0 with x and its base
pub record IsTightAt (r : ℕ) (vs : List Affine) (x : List ℤ) (l : ℕ) (words : List ℕ) : Type 0 where
  pub base : List ℤ
  pub is_base : IsBase r vs x base
  pub degree : sum_of base ≡ pos l
  pub bits : HasExactly (length vs) (λ i. is_zero (pairing_with vs x base i)) words

-- the degree of the base of x isn't one of those that are told apart
pub record IsFar (r : ℕ) (vs : List Affine) (x : List ℤ) : Type 0 where
  pub base : List ℤ
  pub is_base : IsBase r vs x base
  pub far : (l : ℕ) → l < DEGREES → sum_of base ≡ pos l → ⊥

-- the counts of each set and degree are the numbers of the points whose base has the degree and is 0 on the set
abbrev pub AreCountsOf : ℕ → List Affine → List (List ℕ) → List (List ℤ) → List ℕ → Type 0
AreCountsOf r vs rows xs counts = (k l : ℕ) → k < length rows → l < DEGREES → Number (HasBaseOn r vs rows k l) xs (count_at counts k l)
