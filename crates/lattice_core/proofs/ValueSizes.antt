-- The values of functions and points of a size, in 64 bits and in 128.
use Rattle.std.specs.Prelude.{nat_abs}
use Rattle.std.specs.Int.RustNames.{FitsSigned}
use mir.Syntax.{w64}
use Rattle.std.proofs.Common.{◌≡◌, ℕ, zero, suc, ◌+◌, ◌*◌, ◌-◌, ◌^◌, ◌<◌, ◌≤◌, List, ℤ, ◌+ℤ◌, arith, ap, ◌∙◌}
use Rattle.std.proofs.Math.Nat.{mul-le-mul_left, pow-suc}
use Rattle.lattice_theory.specs.Affine.{Affine, value}
use Rattle.lattice_theory.specs.Vector.{dot}
use Rattle.lattice_theory.specs.Size.{absolute_sum}
use Rattle.std.proofs.lemmas.Int.{ints, fits_signed_from_abs}
use Rattle.normal_bounds.proofs.Sizes.{pairing_bound_lem, within_from_all}
use Rattle.normal_bounds.proofs.Numbers.{values_fit_lem}
use Rattle.lattice_core.specs.Limits.{size_limit_of}
use Rattle.lattice_core.specs.ValueWidths.{IsWithin, AreNarrow, IsNarrowAt, IsWideAt}
use Rattle.lattice_core.specs.ValueWidthSteps.{HasNarrowSums}
use Rattle.lattice_core.proofs.SizeLimits.{limit_bound}

-- twice the size makes one power more
power_more : (n s : ℕ) → 1 ≤ n → s ^ n ≡ s ^ (n - 1) * s
power_more zero s h = absurd (omega arith)
power_more (suc k) s h = pow-suc s k ∙ ap (λ (j : ℕ). s ^ j * s) (behind k)
  where
    behind : (k : ℕ) → k ≡ suc k - 1
    behind k = omega arith

twice_product : (b s : ℕ) → b * (2 * s) ≡ b * s + b * s
twice_product b s = omega arith

-- values below 2^63
pub narrow_serves : (n size : ℕ) → 1 ≤ n → AreNarrow n size → (f : Affine) (p : List ℤ) → IsWithin n size f → absolute_sum p ≤ size
    → IsNarrowAt f p
narrow_serves n size some narrow f p within small =
    let bound = (2 * size) ^ (n - 1) in
    let power = power_more n (2 * size) some ∙ twice_product bound size in
    let products = mul-le-mul_left bound small in
    let constant = within.constant in
    record { bound = bound; entries = within.normal; sums = omega arith }

-- values below 2^127
pub wide_serves : (n size : ℕ) → 1 ≤ n → n ≤ 6 → size ≤ size_limit_of n → (f : Affine) (p : List ℤ) → IsWithin n size f → absolute_sum p ≤ size
    → IsWideAt f p
wide_serves n size some most limit f p within small =
    let power = power_more n (2 * size) some ∙ twice_product ((2 * size) ^ (n - 1)) size in
    let fits = values_fit_lem n n size (omega arith) limit in
    let constant = within.constant in
    let bound = limit_bound n in
    record { point = omega arith; constant = omega arith }

-- the power of twice the size fits
pub power_fits : (n size : ℕ) → size ≤ size_limit_of n → (2 * size) ^ n < 2 ^ 128
power_fits n size limit = let fits = values_fit_lem n n size (omega arith) limit in omega arith

-- a small function's pairing with a point, its constant, and its value
pub narrow_pairing : (f : Affine) (p : List ℤ) → IsNarrowAt f p → HasNarrowSums f.normal p
narrow_pairing f p small = record { bound = small.bound; entries = small.entries; sums = let h = small.sums in omega arith }

pub narrow_value : (f : Affine) (p : List ℤ) → IsNarrowAt f p → nat_abs (value f p) < 2 ^ 63
narrow_value f p small =
    let pairing = pairing_bound_lem small.bound f.normal p (within_from_all small.bound f.normal small.entries) in
    below (dot f.normal p) f.constant _ pairing small.sums
  where
    below : (a b : ℤ) (m : ℕ) → nat_abs a ≤ m → m + nat_abs b < 2 ^ 63 → nat_abs (a +ℤ b) < 2 ^ 63
    below a b m h k = omega (arith, ints)

pub narrow_value_fits : (f : Affine) (p : List ℤ) → IsNarrowAt f p → FitsSigned w64 (dot f.normal p +ℤ f.constant)
narrow_value_fits f p small = fits_signed_from_abs w64 (dot f.normal p +ℤ f.constant) (let h = narrow_value f p small in omega arith)

pub narrow_constant_fits : (f : Affine) (p : List ℤ) → IsNarrowAt f p → FitsSigned w64 f.constant
narrow_constant_fits f p small = fits_signed_from_abs w64 f.constant (let h = small.sums in omega arith)
