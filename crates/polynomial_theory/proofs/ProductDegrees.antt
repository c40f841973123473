-- The degree of a product.
use Rattle.std.proofs.Common.{◌≡◌, ℕ, ◌+◌, ◌<◌, ◌≤◌, ◌⊎◌, inl, inr, ℤ, pos, ◌*ℤ◌, ap, ◌∙◌, arith}
use Rattle.lattice_theory.proofs.Integers.{zero-*ℤ, *ℤ-zero}
use Rattle.polynomial_theory.specs.Series.{Series, HasDegreeAtMost, product}
use Rattle.polynomial_theory.proofs.LowPowers.{large_or_not}
use Rattle.polynomial_theory.proofs.Places.{splits_none}

pub product_degree_lem : (m n : ℕ) (A B : Series) → HasDegreeAtMost m A → HasDegreeAtMost n B → HasDegreeAtMost (m + n) (product A B)
product_degree_lem m n A B d e k h = splits_none k (λ a b. A a *ℤ B b) (λ a b s. by a b s (large_or_not m a))
  where
    by : (a b : ℕ) → a + b ≡ k → (m < a) ⊎ (a ≤ m) → A a *ℤ B b ≡ pos 0
    by a b s (inl l) = ap (λ (z : ℤ). z *ℤ B b) (d a l) ∙ zero-*ℤ (B b)
    by a b s (inr l) = ap (λ (z : ℤ). A a *ℤ z) (e b (omega arith)) ∙ *ℤ-zero (A a)
