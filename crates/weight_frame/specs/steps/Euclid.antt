-- What Euclid's steps find. This project's own.
use Rattle.std.specs.Prelude.{ℕ, ℤ, pos, ◌-ℤ◌, ◌*ℤ◌}
use Rattle.std.specs.Int.{IsGcd}
use Rattle.lattice_theory.specs.Vector.{DividesInteger}

-- a and b differ by a multiple of the modulus
abbrev pub IsCongruent : ℕ → ℤ → ℤ → Type 0
IsCongruent modulus a b = DividesInteger modulus (a -ℤ b)

-- the divisor is the greatest common divisor of r and the modulus, and r times the multiplier is congruent to it
pub record IsBezout (r modulus divisor : ℕ) (multiplier : ℤ) : Type 0 where
  pub greatest : IsGcd modulus r divisor
  pub congruent : IsCongruent modulus (multiplier *ℤ pos r) (pos divisor)
