-- Sizes of products and sums.
use Rattle.std.proofs.Common.{◌≡◌, ◌<◌, sym, ℕ, ◌+◌, ◌*◌, ◌^◌, ◌≤◌, ℤ, pos, ◌+ℤ◌, ◌-ℤ◌, ◌*ℤ◌, ◌<ℤ◌, nat_abs, to_z, of_z, SFits, arith}
use Rattle.std.specs.Int.{w128}
use Rattle.std.proofs.lemmas.Int.{ints, to_z-of_z, unsigned_abs-mul, fits_signed_from_abs, quot_fits}
use Rattle.std.specs.Int.RustNames.{int_div}
use Rattle.std.proofs.Math.Nat.{mul-le-mul}
use Rattle.lattice_core.proofs.Widths.{small_fits}

-- the size of a product
pub product_bound : (a b : ℤ) (m n : ℕ) → nat_abs a ≤ m → nat_abs b ≤ n → nat_abs (a *ℤ b) ≤ m * n
product_bound a b m n h k = rw unsigned_abs-mul (mul-le-mul h k)

-- the size of a sum
pub sum_bound : (a b : ℤ) (m n : ℕ) → nat_abs a ≤ m → nat_abs b ≤ n → nat_abs (a +ℤ b) ≤ m + n
sum_bound a b m n h k = omega (arith, ints)

-- a product in 128 bits
product_fits : (p a : ℤ) → nat_abs p ≤ 2 ^ 55 → nat_abs a ≤ 2 ^ 40 → SFits w128 (p *ℤ a)
product_fits p a h k = let b : nat_abs (p *ℤ a) ≤ 2 ^ 55 * 2 ^ 40 = product_bound p a (2 ^ 55) (2 ^ 40) h k in
    small_fits (p *ℤ a) (omega arith)

pub product_exact : (p a r : ℤ) → r ≡ a → nat_abs p ≤ 2 ^ 55 → nat_abs a ≤ 2 ^ 40 → to_z w128 (of_z w128 (p *ℤ r)) ≡ p *ℤ a
product_exact p a r e h k = rw e (to_z-of_z w128 (p *ℤ a) (product_fits p a h k))

pub product_small : (p a r : ℤ) → r ≡ a → nat_abs p ≤ 2 ^ 55 → nat_abs a ≤ 2 ^ 40 → nat_abs (to_z w128 (of_z w128 (p *ℤ r))) ≤ 2 ^ 95
product_small p a r e h k = let b : nat_abs (p *ℤ a) ≤ 2 ^ 55 * 2 ^ 40 = product_bound p a (2 ^ 55) (2 ^ 40) h k in
    rw (product_exact p a r e h k) (omega arith)

-- what is left of a number beside a product, divided
left_bound : (d f v : ℤ) → nat_abs d ≤ 2 ^ 55 → nat_abs f ≤ 2 ^ 55 → nat_abs v ≤ 2 ^ 55 → (nat_abs (f *ℤ v) ≤ 2 ^ 110)
    × (nat_abs (d -ℤ f *ℤ v) ≤ 2 ^ 111)
left_bound d f v h k l = let b : nat_abs (f *ℤ v) ≤ 2 ^ 55 * 2 ^ 55 = product_bound f v (2 ^ 55) (2 ^ 55) k l in
    (omega arith, difference_bound d (f *ℤ v) h (omega arith))
  where
    difference_bound : (d p : ℤ) → nat_abs d ≤ 2 ^ 55 → nat_abs p ≤ 2 ^ 110 → nat_abs (d -ℤ p) ≤ 2 ^ 111
    difference_bound d p h k = omega (arith, ints)

pub left_exact : (d f v x y z : ℤ) → x ≡ d → y ≡ f → z ≡ v → nat_abs d ≤ 2 ^ 55 → nat_abs f ≤ 2 ^ 55 → nat_abs v ≤ 2 ^ 55
    → to_z w128 (of_z w128 (x -ℤ to_z w128 (of_z w128 (y *ℤ z)))) ≡ d -ℤ f *ℤ v
left_exact d f v x y z ex ey ez h k l =
    let b = left_bound d f v h k l in
    let product : SFits w128 (f *ℤ v) = small_fits _ (omega arith) in
    let left : SFits w128 (d -ℤ f *ℤ v) = small_fits _ (omega arith) in
    rw (ex, ey, ez) (simp to_z-of_z)

pub left_small : (d f v : ℤ) → nat_abs d ≤ 2 ^ 55 → nat_abs f ≤ 2 ^ 55 → nat_abs v ≤ 2 ^ 55 → nat_abs (d -ℤ f *ℤ v) < 2 ^ 112
left_small d f v h k l = let b = (left_bound d f v h k l).1 in omega arith

pub second_exact : (b c a u : ℤ) → b ≡ c → u ≡ a → SFits w128 b → pos 0 <ℤ a → to_z w128 (of_z w128 (int_div b u)) ≡ int_div c a
second_exact b c a u eb eu fits p =
    let whole : SFits w128 (int_div b a) = quot_fits w128 b a fits p in
    rw (eu, sym eb) (simp to_z-of_z)

-- a difference, divided
difference_fits : (a b : ℤ) → nat_abs a ≤ 2 ^ 63 → nat_abs b ≤ 2 ^ 98 → SFits w128 (a -ℤ b)
difference_fits a b h k = fits_signed_from_abs w128 (a -ℤ b) (omega (arith, ints))

pub divided_exact : (a b d x u : ℤ) → x ≡ a → u ≡ d → nat_abs a ≤ 2 ^ 63 → nat_abs b ≤ 2 ^ 98 → pos 0 <ℤ d
    → to_z w128 (of_z w128 (int_div (to_z w128 (of_z w128 (x -ℤ b))) u)) ≡ int_div (a -ℤ b) d
divided_exact a b d x u ex eu h k p =
    let left : SFits w128 (a -ℤ b) = difference_fits a b h k in
    let whole : SFits w128 (int_div (a -ℤ b) d) = quot_fits w128 (a -ℤ b) d left p in
    rw (ex, eu) (simp to_z-of_z)
