-- Quotients that are rounded down.
use Rattle.std.specs.Prelude.{ℤ, pos, negsuc, neg_ℤ, nat_abs, ◌+ℤ◌, ◌-ℤ◌, ◌*ℤ◌, ◌≤ℤ◌, ◌<ℤ◌, ◌↔◌}
use Rattle.std.specs.Int.{int_div_euclid}
use mir.Syntax.{w128}
use Rattle.std.proofs.Common.{◌≡◌, ◌⊎◌, inl, inr, ℕ, ◌+◌, ◌*◌, ◌/◌, ◌^◌, ◌<◌, ◌≤◌, refl, arith, to_z, of_z, SFits}
use Rattle.std.proofs.lemmas.Int.{ints, to_z-of_z, unsigned_abs-mul, fits_signed_from_abs}
use Rattle.std.proofs.Math.Nat.{mul-div-le, mod-lt, div-add-mod', mul-le-mul}
use Rattle.lattice_theory.proofs.Integers.{linear, products_out, product_nonnegative, *ℤ-neg}
use Rattle.region_walk.specs.steps.Spans.{IsBetween}

-- q is a/b, rounded down
record IsFloor (a b q : ℤ) : Type 0 where
  least : (b *ℤ q) ≤ℤ a
  most : a <ℤ (b *ℤ (q +ℤ pos 1))

-- so these are the numbers whose multiples are at most a
floor_means : (a b q v : ℤ) → pos 0 <ℤ b → IsFloor a b q → ((b *ℤ v) ≤ℤ a → v ≤ℤ q) × (v ≤ℤ q → (b *ℤ v) ≤ℤ a)
floor_means a b q v h f = (
  below (order v q),
  λ k.
      let rest = simp products_out at (product_nonnegative b (q -ℤ v) (omega (arith, linear)) (omega (arith, linear))) in
      let least = f.least in
      omega (arith, linear),
)
  where
    order : (v q : ℤ) → (v ≤ℤ q) ⊎ ((q +ℤ pos 1) ≤ℤ v)
    order v q = grind (arith, ints)

    below : (v ≤ℤ q) ⊎ ((q +ℤ pos 1) ≤ℤ v) → (b *ℤ v) ≤ℤ a → v ≤ℤ q
    below (inl l) k = l
    below (inr l) k =
        let rest = simp products_out at (product_nonnegative b (v -ℤ (q +ℤ pos 1)) (omega (arith, linear)) (omega (arith, linear))) in
        let most = simp products_out at f.most in
        absurd (omega (arith, linear))

-- the quotient whose remainder isn't negative
natural_floor : (m n k : ℕ) → 0 < n → k ≡ m / n → (n * k ≤ m) × (m < n * k + n)
natural_floor m n k h e =
    let parts = div-add-mod' m n in
    let rest = mod-lt m {m = n} h in
    rw e (mul-div-le m n, omega (arith, parts, rest))

floor_of_natural : (m n k : ℕ) → 0 < n → k ≡ m / n → IsFloor (pos m) (pos n) (pos k)
floor_of_natural m n k h e = let w = natural_floor m n k h e in
    record { least = omega (arith, ints, w.0); most = omega (arith, ints, w.1) }

floor_of_negative : (m n k : ℕ) → 0 < n → k ≡ m / n → IsFloor (negsuc m) (pos n) (negsuc k)
floor_of_negative m n k h e = let w = natural_floor m n k h e in
    let up : negsuc k +ℤ pos 1 ≡ neg_ℤ (pos k) = omega (arith, ints) in
    record { least = omega (arith, ints, w.1); most = rw (up, *ℤ-neg (pos n) (pos k)) (omega (arith, ints, w.0)) }

floor_is : (a b : ℤ) → pos 0 <ℤ b → IsFloor a b (int_div_euclid a b)
floor_is (pos m) (pos n) h = floor_of_natural m n (m / n) (omega (arith, ints)) refl
floor_is (negsuc m) (pos n) h = floor_of_negative m n (m / n) (omega (arith, ints)) refl
floor_is a (negsuc n) h = absurd (omega (arith, ints))

-- so it is the quotient, rounded down
pub euclid_floor : (a b v : ℤ) → pos 0 <ℤ b → ((b *ℤ v) ≤ℤ a → v ≤ℤ int_div_euclid a b) × (v ≤ℤ int_div_euclid a b → (b *ℤ v) ≤ℤ a)
euclid_floor a b v h = floor_means a b (int_div_euclid a b) v h (floor_is a b h)

-- a quotient isn't much below its dividend
pub quotient_above : (a b q : ℤ) (m : ℕ) → pos 0 <ℤ b → nat_abs a ≤ m → ((v : ℤ) → (b *ℤ v) ≤ℤ a ↔ v ≤ℤ q) → neg_ℤ (pos m) ≤ℤ q
quotient_above a b q m h small means = (means (neg_ℤ (pos m))).0
    (let rest = simp products_out at (product_nonnegative (b -ℤ pos 1) (pos m) (omega (arith, ints)) (omega (arith, ints))) in
    let flipped = *ℤ-neg b (pos m) in
    omega (arith, ints))

-- where a rising function isn't negative
pub rising_from : (slope rest q least : ℤ) → least ≡ pos 0 -ℤ q → ((v : ℤ) → (slope *ℤ v) ≤ℤ rest ↔ v ≤ℤ q)
    → (v : ℤ) → (least ≤ℤ v → pos 0 ≤ℤ (slope *ℤ v +ℤ rest)) × (pos 0 ≤ℤ (slope *ℤ v +ℤ rest) → least ≤ℤ v)
rising_from slope rest q least e means v =
    let w = means (neg_ℤ v) in
    let flipped = *ℤ-neg slope v in (
      λ h. let k = w.0 in let l = w.1 (omega (arith, linear)) in omega (arith, linear),
      λ h. let k = w.0 (omega (arith, linear)) in omega (arith, linear),
    )

-- the values of a span from the least one on
pub span_from : (least low high : ℤ) (Q : ℤ → Type 0) → ((v : ℤ) → least ≤ℤ v ↔ Q v) → low ≤ℤ least
    → (v : ℤ) → (IsBetween least high v → IsBetween low high v × Q v) × (IsBetween low high v × Q v → IsBetween least high v)
span_from least low high Q means above v = (
  λ b. ((omega (arith, ints, b.0), b.1), (means v).0 b.0),
  λ b. ((means v).1 b.1, b.0.1),
)

-- and up to the greatest one
pub span_to : (most low high : ℤ) (Q : ℤ → Type 0) → ((v : ℤ) → v ≤ℤ most ↔ Q v) → most ≤ℤ high
    → (v : ℤ) → (IsBetween low most v → IsBetween low high v × Q v) × (IsBetween low high v × Q v → IsBetween low most v)
span_to most low high Q means below v = (
  λ b. ((b.0, omega (arith, ints, b.1)), (means v).0 b.1),
  λ b. (b.0.0, (means v).1 b.1),
)

-- a rising function that isn't negative at the least value of a span is negative at none of them
rising_above : (slope rest low v : ℤ) → pos 0 <ℤ slope → low ≤ℤ v → pos 0 ≤ℤ (slope *ℤ low +ℤ rest) → pos 0 ≤ℤ (slope *ℤ v +ℤ rest)
rising_above slope rest low v h l k =
    let more = simp products_out at (product_nonnegative slope (v -ℤ low) (omega (arith, linear)) (omega (arith, linear))) in
    omega (arith, ints)

pub rising_keeps : (slope rest low high : ℤ) → pos 0 <ℤ slope → pos 0 ≤ℤ (slope *ℤ low +ℤ rest) → (v : ℤ)
    → (IsBetween low high v → IsBetween low high v × (pos 0 ≤ℤ (slope *ℤ v +ℤ rest)))
    × (IsBetween low high v × (pos 0 ≤ℤ (slope *ℤ v +ℤ rest)) → IsBetween low high v)
rising_keeps slope rest low high h k v = (λ b. (b, rising_above slope rest low v h b.0 k), λ b. b.0)

-- the same of a falling one at the greatest
falling_below : (slope rest high v : ℤ) → slope <ℤ pos 0 → v ≤ℤ high → pos 0 ≤ℤ (slope *ℤ high +ℤ rest) → pos 0 ≤ℤ (slope *ℤ v +ℤ rest)
falling_below slope rest high v h l k =
    let more = simp products_out at (product_nonnegative (neg_ℤ slope) (high -ℤ v) (omega (arith, linear)) (omega (arith, linear))) in
    omega (arith, ints)

pub falling_keeps : (slope rest low high : ℤ) → slope <ℤ pos 0 → pos 0 ≤ℤ (slope *ℤ high +ℤ rest) → (v : ℤ)
    → (IsBetween low high v → IsBetween low high v × (pos 0 ≤ℤ (slope *ℤ v +ℤ rest)))
    × (IsBetween low high v × (pos 0 ≤ℤ (slope *ℤ v +ℤ rest)) → IsBetween low high v)
falling_keeps slope rest low high h k v = (λ b. (b, falling_below slope rest high v h b.1 k), λ b. b.0)

-- such a value in 128 bits
pub value_exact : (a b r : ℤ) → nat_abs a ≤ 2 ^ 63 → nat_abs b ≤ 2 ^ 63 → nat_abs r ≤ 2 ^ 104
    → to_z w128 (of_z w128 (to_z w128 (of_z w128 (a *ℤ b)) +ℤ r)) ≡ a *ℤ b +ℤ r
value_exact a b r h k l =
    let bound : nat_abs (a *ℤ b) ≤ 2 ^ 63 * 2 ^ 63 = rw unsigned_abs-mul (mul-le-mul h k) in
    let product : SFits w128 (a *ℤ b) = fits_signed_from_abs w128 (a *ℤ b) (omega arith) in
    let whole : SFits w128 (a *ℤ b +ℤ r) = fits_signed_from_abs w128 (a *ℤ b +ℤ r) (omega (arith, ints)) in
    simp to_z-of_z
