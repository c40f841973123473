-- What tests of signs tell.
use Rattle.std.proofs.Common.{◌≡◌, ℤ, pos, ◌≤ℤ◌, ◌<ℤ◌, arith}
use Rattle.std.specs.Prelude.{int_le, int_lt, true, false}
use Rattle.std.proofs.lemmas.Int.{ints}

pub at_least_zero : (v : ℤ) → int_le (pos 0) v ≡ true → pos 0 ≤ℤ v
at_least_zero v e = grind (arith, ints)

pub not_at_least_zero : (v : ℤ) → int_le (pos 0) v ≡ false → v <ℤ pos 0
not_at_least_zero v e = grind (arith, ints)

pub below_zero : (v : ℤ) → int_lt v (pos 0) ≡ true → v <ℤ pos 0
below_zero v e = grind (arith, ints)

pub not_below_zero : (v : ℤ) → int_lt v (pos 0) ≡ false → pos 0 ≤ℤ v
not_below_zero v e = grind (arith, ints)

pub not_above_zero : (v : ℤ) → int_lt (pos 0) v ≡ false → v ≤ℤ pos 0
not_above_zero v e = grind (arith, ints)
