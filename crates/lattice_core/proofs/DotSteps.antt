-- Steps of the loop that pairs two vectors.
use Rattle.std.proofs.Common.{◌≡◌, ℕ, ◌+◌, ◌*◌, ◌^◌, ◌<◌, ◌≤◌, List, length, drop, ℤ, pos, ◌+ℤ◌, ◌*ℤ◌, nat_abs, refl, ap, ◌∙◌, All, arith, add-one, drop-cons}
use Rattle.std.proofs.lemmas.List.{drop_all}
use Rattle.std.proofs.lemmas.Int.{ints, unsigned_abs-mul, fits_signed_from_abs}
use Rattle.std.proofs.Math.Nat.{mul-le-mul_right, mul-add}
use Rattle.std.specs.Int.RustNames.{FitsSigned}
use mir.Syntax.{w64, w128}
use Rattle.lattice_theory.specs.Vector.{entry, dot}
use Rattle.lattice_theory.specs.Size.{absolute_sum}
use Rattle.lattice_theory.proofs.Integers.{first_terms}
use Rattle.lattice_core.specs.ValueWidthSteps.{HasNarrowSums}

-- a product with a bounded number
product_bound : (bound : ℕ) (a b : ℤ) → nat_abs a ≤ bound → nat_abs (a *ℤ b) ≤ bound * nat_abs b
product_bound bound a b h = rw unsigned_abs-mul (mul-le-mul_right (nat_abs b) h)

-- one product of a pairing, and the rest
dot_drop : (x y : List ℤ) (i : ℕ) → i < length x → i < length y
    → dot (drop i x) (drop i y) ≡ entry x i *ℤ entry y i +ℤ dot (drop (i + 1) x) (drop (i + 1) y)
dot_drop x y i h k = rw (add-one, drop-cons x i (pos 0) h, drop-cons y i (pos 0) k)

-- one entry of an absolute sum, and the rest
absolute_sum_drop : (y : List ℤ) (i : ℕ) → i < length y → absolute_sum (drop i y) ≡ nat_abs (entry y i) + absolute_sum (drop (i + 1) y)
absolute_sum_drop y i k = rw (add-one, drop-cons y i (pos 0) k)

-- the absolute value of a sum
abs_sum : (s p t : ℤ) → t ≡ s +ℤ p → nat_abs t ≤ nat_abs s + nat_abs p
abs_sum s p t h = omega (arith, ints)

-- the sum so far and the pairing of what is left make the whole
pub sum_more : (x y : List ℤ) (i : ℕ) (s p t : ℤ) → i < length x → i < length y → p ≡ entry x i *ℤ entry y i → t ≡ s +ℤ p
    → s +ℤ dot (drop i x) (drop i y) ≡ dot x y → t +ℤ dot (drop (i + 1) x) (drop (i + 1) y) ≡ dot x y
sum_more x y i s p t h k m e d = first_terms s p (dot (drop (i + 1) x) (drop (i + 1) y)) _ t e (rw m (rw (dot_drop x y i h k) at d))

-- the sum so far and the absolute sum of what is left stay below the absolute sum of all
pub bound_more : (bound : ℕ) (y : List ℤ) (i m : ℕ) (s a p t : ℤ) → i < length y → nat_abs a ≤ bound → p ≡ a *ℤ entry y i → t ≡ s +ℤ p
    → nat_abs s + bound * absolute_sum (drop i y) ≤ m → nat_abs t + bound * absolute_sum (drop (i + 1) y) ≤ m
bound_more bound y i m s a p t k h q e d =
    let b : nat_abs p ≤ bound * nat_abs (entry y i) = rw q (product_bound bound a (entry y i) h) in
    let split : bound * absolute_sum (drop i y) ≡ bound * nat_abs (entry y i) + bound * absolute_sum (drop (i + 1) y) =
    ap (λ (n : ℕ). bound * n) (absolute_sum_drop y i k) ∙ mul-add bound (nat_abs (entry y i)) (absolute_sum (drop (i + 1) y)) in
    omega (arith, abs_sum s p t e)

-- the next sum fits
pub sum_fits : (y : List ℤ) (i : ℕ) (s a p : ℤ) → i < length y → absolute_sum y ≤ 2 ^ 60 → nat_abs a ≤ 2 ^ 63 → p ≡ a *ℤ entry y i
    → nat_abs s + 2 ^ 63 * absolute_sum (drop i y) ≤ 2 ^ 63 * absolute_sum y → FitsSigned w128 (s +ℤ p)
sum_fits y i s a p k small h q d = fits_signed_from_abs w128 (s +ℤ p) (omega (arith, bound_more (2 ^ 63) y i _ s a p (s +ℤ p) k h q refl d))

-- in 64 bits: the sum so far stays within each bound on the first vector's entries
abbrev pub StaysWithin : List ℤ → List ℤ → ℕ → ℤ → Type 0
StaysWithin x y i s = (bound : ℕ) → All (λ a. nat_abs a ≤ bound) x → nat_abs s + bound * absolute_sum (drop i y) ≤ bound * absolute_sum y

pub stays_within : (x y : List ℤ) (i : ℕ) (s : ℤ) → i < length x → i < length y → StaysWithin x y i s
    → StaysWithin x y (i + 1) (s +ℤ entry x i *ℤ entry y i)
stays_within x y i s h k within bound small = bound_more bound y i _ s _ _ _ k (small i (pos 0) h) refl refl (within bound small)

-- so the next product and the next sum fit
pub narrow_fits : (x y : List ℤ) (i : ℕ) (s : ℤ) → HasNarrowSums x y → i < length x → i < length y → StaysWithin x y i s
    → FitsSigned w64 (entry x i *ℤ entry y i) × FitsSigned w64 (s +ℤ entry x i *ℤ entry y i)
narrow_fits x y i s small h k within = (
  fits_signed_from_abs w64 (entry x i *ℤ entry y i) (let fits = small.sums in omega (arith, product)),
  fits_signed_from_abs w64 (s +ℤ entry x i *ℤ entry y i) (let fits = small.sums in omega (arith, sum)),
)
  where
    before : nat_abs s + small.bound * absolute_sum (drop i y) ≤ small.bound * absolute_sum y
    before = within small.bound small.entries

    product : nat_abs (entry x i *ℤ entry y i) + small.bound * absolute_sum (drop (i + 1) y) ≤ small.bound * absolute_sum y
    product = bound_more small.bound y i _ (pos 0) (entry x i) _ _ k (small.entries i (pos 0) h) refl (zero_+ℤ (entry x i *ℤ entry y i))
        (omega (arith, before))
      where
        zero_+ℤ : (a : ℤ) → a ≡ pos 0 +ℤ a
        zero_+ℤ a = omega (arith, ints)

    sum : nat_abs (s +ℤ entry x i *ℤ entry y i) + small.bound * absolute_sum (drop (i + 1) y) ≤ small.bound * absolute_sum y
    sum = stays_within x y i s h k within small.bound small.entries

-- at the end nothing is left
pub sum_all : (x y : List ℤ) (i : ℕ) (s : ℤ) → length x ≤ i → s +ℤ dot (drop i x) (drop i y) ≡ dot x y → s ≡ dot x y
sum_all x y i s h e = let e' : s +ℤ pos 0 ≡ dot x y = rw (drop_all i x h) at e in omega (arith, ints)
