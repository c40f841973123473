-- The constants of dilated functions fit 128 bits.
use Rattle.std.specs.Prelude.{ℤ, nat_abs, ◌*ℤ◌}
use Rattle.std.proofs.Common.{◌*◌, ◌^◌, ◌≤◌, arith}
use Rattle.std.proofs.lemmas.Int.{unsigned_abs-mul, fits_signed_from_abs}
use Rattle.std.proofs.Math.Nat.{mul-le-mul_right, mul-le-mul_left}
use Rattle.std.specs.Int.RustNames.{FitsSigned}
use mir.Syntax.{w128}

-- the absolute value of a product with a small number
pub product_abs : (d k : ℤ) → nat_abs d ≤ 7 → nat_abs k ≤ 2 ^ 100 → nat_abs (d *ℤ k) ≤ 7 * 2 ^ 100
product_abs d k h l = rw unsigned_abs-mul (omega (arith, mul-le-mul_right {m = nat_abs d} {n = 7} (nat_abs k) h, mul-le-mul_left 7 l))

-- so the product fits
pub product_fits : (d k : ℤ) → nat_abs d ≤ 7 → nat_abs k ≤ 2 ^ 100 → FitsSigned w128 (d *ℤ k)
product_fits d k h l = fits_signed_from_abs w128 (d *ℤ k) (omega (arith, product_abs d k h l))
