-- Signs by parity.
use Rattle.std.proofs.Common.{◌≡◌, ℕ, zero, suc, ◌%◌, ◌==◌, ◌<◌, ◌≤◌, ℤ, pos, negsuc, ◌-ℤ◌, ◌*ℤ◌, nat_abs, refl, sym, ap, ◌∙◌, arith}
use Rattle.std.proofs.lemmas.Int.{ints, unsigned_abs-mul}
use Rattle.lattice_theory.proofs.Integers.{linear, one-*ℤ, minus_one-*ℤ}
use Rattle.polynomial_theory.specs.Sums.{sign}
use Rattle.small_poly.specs.Tables.{unit_of}

pub sign_even : (n : ℕ) → n % 2 ≡ 0 → sign n ≡ pos 1
sign_even zero h = refl
sign_even (suc zero) h = absurd (omega arith)
sign_even (suc (suc n)) h = let e = sign_even n (omega arith) in omega (arith, linear)

pub sign_odd : (n : ℕ) → n % 2 ≡ 1 → sign n ≡ negsuc 0
sign_odd zero h = absurd (omega arith)
sign_odd (suc zero) h = refl
sign_odd (suc (suc n)) h = let e = sign_odd n (omega arith) in omega (arith, linear)

pub signed_even : (n : ℕ) (z : ℤ) → n % 2 ≡ 0 → z ≡ sign n *ℤ z
signed_even n z h = rw (sign_even n h) (sym (one-*ℤ z))

pub signed_odd : (n : ℕ) (z : ℤ) → n % 2 ≡ 1 → pos 0 -ℤ z ≡ sign n *ℤ z
signed_odd n z h = rw (sign_odd n h) (let e = minus_one-*ℤ z in omega (arith, linear))

-- a sign doesn't change the size
sign_size : (n : ℕ) → nat_abs (sign n) ≡ 1
sign_size zero = refl
sign_size (suc n) = let e = sign_size n in omega (arith, ints)

pub signed_bound : (n : ℕ) (z : ℤ) (m : ℕ) → nat_abs z ≤ m → nat_abs (sign n *ℤ z) ≤ m
signed_bound n z m h = rw (unsigned_abs-mul, sign_size n) (omega arith)

-- the sign as that of a test of parity
pub parity : (n : ℕ) → unit_of (n % 2 == 1) ≡ sign n
parity n = by (n % 2) refl (omega arith)
  where
    by : (m : ℕ) → n % 2 ≡ m → m < 2 → unit_of (n % 2 == 1) ≡ sign n
    by zero e h = ap (λ (k : ℕ). unit_of (k == 1)) e ∙ sym (sign_even n e)
    by (suc zero) e h = ap (λ (k : ℕ). unit_of (k == 1)) e ∙ sym (sign_odd n e)
    by (suc (suc m)) e h = absurd (omega arith)
