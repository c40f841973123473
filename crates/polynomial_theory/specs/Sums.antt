-- Finite sums of integers. This project's own.
use Rattle.std.specs.Prelude.{ℕ, zero, suc, List, [], ◌∷◌, ℤ, pos, ◌+ℤ◌, neg_ℤ}

-- the sum of f x over the members x of a list
abbrev pub sum_over : {X : Type 0} → List X → (X → ℤ) → ℤ
sum_over [] f = pos 0
sum_over (x ∷ xs) f = f x +ℤ sum_over xs f

-- the sum of f a b over all natural numbers a and b with a + b = n
abbrev pub sum_of_splits : ℕ → (ℕ → ℕ → ℤ) → ℤ
sum_of_splits zero f = f 0 0
sum_of_splits (suc n) f = f 0 (suc n) +ℤ sum_of_splits n (λ a b. f (suc a) b)

-- (-1)^n
abbrev pub sign : ℕ → ℤ
sign zero = pos 1
sign (suc n) = neg_ℤ (sign n)
