-- Small steps about signs of integers: sums of terms that are 0 or nonnegative, and the nonnegative values of affine functions at points.
use Rattle.std.proofs.Common.{◌≡◌, ◌≢◌, List, ℤ, pos, ◌+ℤ◌, ◌*ℤ◌, neg_ℤ, ◌≤ℤ◌, ◌<ℤ◌, subst, arith}
use Rattle.lattice_theory.specs.Affine.{Affine, value, IsNonnegative}
use Rattle.lattice_theory.proofs.Integers.{products_out, linear}
use Rattle.lattice_theory.proofs.Members.{In, all_from_each, each_from_all, each_in, each_from_in}

-- along an equation
pub nonnegative_same : {a b : ℤ} → a ≡ b → pos 0 ≤ℤ a → pos 0 ≤ℤ b
nonnegative_same e h = subst (λ (z : ℤ). pos 0 ≤ℤ z) e h

-- the same for positive numbers
pub positive_same : {a b : ℤ} → a ≡ b → pos 0 <ℤ a → pos 0 <ℤ b
positive_same e h = subst (λ (z : ℤ). pos 0 <ℤ z) e h

-- positive numbers are those that are nonnegative and not 0
pub nonnegative_weaker : {a : ℤ} → pos 0 <ℤ a → pos 0 ≤ℤ a
nonnegative_weaker p = omega (arith, linear)

-- and conversely
pub positive_from : (a : ℤ) → pos 0 ≤ℤ a → a ≢ pos 0 → pos 0 <ℤ a
positive_from a h n = omega (arith, linear)

-- sums
pub nonnegative_sum : {a b : ℤ} → pos 0 ≤ℤ a → pos 0 ≤ℤ b → pos 0 ≤ℤ (a +ℤ b)
nonnegative_sum h k = omega (arith, linear)

-- of positive terms
pub positive_sum : {a b : ℤ} → pos 0 <ℤ a → pos 0 <ℤ b → pos 0 <ℤ (a +ℤ b)
positive_sum p q = omega (arith, linear)

-- of terms that are 0
pub zero_sum : {a b : ℤ} → a ≡ pos 0 → b ≡ pos 0 → a +ℤ b ≡ pos 0
zero_sum e e' = omega (arith, linear)

-- nonnegative terms of a sum that is 0
pub terms_zero : (a b : ℤ) → pos 0 ≤ℤ a → pos 0 ≤ℤ b → a +ℤ b ≡ pos 0 → (a ≡ pos 0) × (b ≡ pos 0)
terms_zero a b h k e = (omega (arith, linear), omega (arith, linear))

-- x y - y x
pub cancelled : (x y : ℤ) → x *ℤ y +ℤ neg_ℤ y *ℤ x ≡ pos 0
cancelled x y = simp products_out (omega (arith, linear))

-- a function is nonnegative on points exactly where it is at each of them
pub nonnegative_at : (points : List (List ℤ)) (f : Affine) → IsNonnegative points f → {p : List ℤ} → In p points → pos 0 ≤ℤ value f p
nonnegative_at points f h i = each_in (each_from_all (λ q. pos 0 ≤ℤ value f q) points h) i

-- and conversely
pub nonnegative_from : (points : List (List ℤ)) (f : Affine) → ((p : List ℤ) → In p points → pos 0 ≤ℤ value f p) → IsNonnegative points f
nonnegative_from points f h = all_from_each (each_from_in points h)
