-- A polynomial by its first coefficients.
use Rattle.std.proofs.Common.{◌≡◌, ℕ, ◌<◌, ◌≤◌, ◌⊎◌, inl, inr, List, ℤ, length, sym, ◌∙◌, arith}
use Rattle.lattice_theory.specs.Vector.{entry}
use Rattle.lattice_theory.proofs.Vectors.{entry_past}
use Rattle.polynomial_theory.specs.Series.{Series, HasDegreeAtMost}
use Rattle.polynomial_theory.proofs.LowPowers.{large_or_not}

pub from_first : (xs : List ℤ) (A : Series) → length xs ≡ 9 → ((j : ℕ) → j < 9 → entry xs j ≡ A j) → HasDegreeAtMost 8 A → (k : ℕ) → entry xs k ≡ A k
from_first xs A e h d k = by (large_or_not 8 k)
  where
    by : (8 < k) ⊎ (k ≤ 8) → entry xs k ≡ A k
    by (inl l) = entry_past xs k (omega arith) ∙ sym (d k l)
    by (inr l) = h k (omega arith)
