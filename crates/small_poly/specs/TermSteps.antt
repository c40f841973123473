-- Where the one product of a coefficient stands. This project's own.
use Rattle.std.specs.Prelude.{◌≡◌, ℕ, ◌+◌, Option, None, Some}

-- the a with a + b = q and p + a = r + b, or that there is none
abbrev pub IsPlace : ℕ → ℕ → ℕ → Option ℕ → Type 0
IsPlace r p q None = (a b : ℕ) → a + b ≡ q → p + a ≡ r + b → ⊥
IsPlace r p q (Some a) = (b : ℕ) × (a + b ≡ q) × (p + a ≡ r + b)
