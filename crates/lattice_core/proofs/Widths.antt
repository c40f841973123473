-- Integers that are far enough below the ends of 128 bits.
use Rattle.std.proofs.Common.{◌^◌, ◌<◌, ℤ, nat_abs, SFits, arith}
use Rattle.std.specs.Int.{w128}
use Rattle.std.proofs.lemmas.Int.{fits_signed_from_abs}

-- what is below 2^126 in absolute value fits
pub small_fits : (a : ℤ) → nat_abs a < 2 ^ 126 → SFits w128 a
small_fits a h = fits_signed_from_abs w128 a (omega arith)
