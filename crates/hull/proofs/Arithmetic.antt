-- Numbers of 128 bits: products, differences and sums that fit.
use Rattle.std.proofs.Common.{◌≡◌, ◌≢◌, ◌^◌, ◌<◌, ◌≤◌, true, false, ℤ, pos, negsuc, ◌-ℤ◌, ◌*ℤ◌, ◌<ℤ◌, ◌≤ℤ◌, ap, sym, ◌∙◌, to_z, of_z, SFits, arith}
use Rattle.std.specs.Int.Signed.{lt_z}
use borrow.Author.Tests.{ltb-true}
use Rattle.lattice_theory.proofs.Integers.{linear}
use Rattle.std.specs.Prelude.{nat_abs}
use Rattle.std.specs.Int.{w128}
use Rattle.std.proofs.lemmas.Int.{ints, to_z-of_z, fits_signed_from_abs, fits_signed_mul}

-- a product of a number of 64 bits and an entry
pub product_exact : (a b : ℤ) → nat_abs a ≤ 2 ^ 63 → nat_abs b ≤ 2 ^ 63 → to_z w128 (of_z w128 (a *ℤ b)) ≡ a *ℤ b
product_exact a b h k = to_z-of_z w128 (a *ℤ b) (fits_signed_mul w128 a b (2 ^ 63) (2 ^ 63) h k (omega arith))

-- so does a difference of two
pub difference_fits : (a b : ℤ) → nat_abs a < 2 ^ 126 → nat_abs b < 2 ^ 126 → SFits w128 (a -ℤ b)
difference_fits a b h k = fits_signed_from_abs w128 (a -ℤ b) (omega (arith, ints))

-- and it is small
pub difference_small : (a b : ℤ) → nat_abs a < 2 ^ 126 → nat_abs b < 2 ^ 126 → nat_abs (a -ℤ b) < 2 ^ 127
difference_small a b h k = omega (arith, ints)

-- what the test for a negative number tells
pub negative_from : (a : ℤ) → lt_z a (pos 0) ≡ true → a <ℤ pos 0
negative_from (pos n) e = absurd (omega (arith, ltb-true, e))
negative_from (negsuc n) e = omega (arith, linear)

-- what the test for another number than 0 tells
pub nonzero_from : (a : ℤ) → (of_z w128 a ≡ 0 → ⊥) → a ≢ pos 0
nonzero_from a n e = n (ap (of_z w128) e)

-- and where it fails
pub zero_from : (a : ℤ) → SFits w128 a → of_z w128 a ≡ 0 → a ≡ pos 0
zero_from a f e = sym (to_z-of_z w128 a f) ∙ ap (to_z w128) e

-- nor for a negative one
pub nonnegative_from : (a : ℤ) → lt_z a (pos 0) ≡ false → pos 0 ≤ℤ a
nonnegative_from (pos n) e = omega (arith, linear)
nonnegative_from (negsuc n) e = cc
