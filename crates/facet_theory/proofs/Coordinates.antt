-- Functions of one coordinate: its distance from a lower and from an upper bound.
use Rattle.std.proofs.Common.{◌≡◌, ℕ, ◌<◌, List, length, ℤ, pos, ◌+ℤ◌, ◌-ℤ◌, ◌*ℤ◌, neg_ℤ, ap, ◌∙◌, arith, sym}
use Rattle.lattice_theory.specs.Vector.{entry, dot, scaled}
use Rattle.lattice_theory.specs.Affine.{Affine, value, value_over}
use Rattle.lattice_theory.proofs.Integers.{products_out, linear}
use Rattle.facet_theory.proofs.Lifted.{value_at_one}
use Rattle.lattice_theory.proofs.Vectors.{unit, length-unit, dot-unit, dot-scaled_left, length-scaled}

-- x_i - low, and high - x_i
pub above_low : ℕ → ℕ → ℤ → Affine
above_low n i low = record { normal = unit n i; constant = neg_ℤ low }

-- and its distance from an upper bound
pub below_high : ℕ → ℕ → ℤ → Affine
below_high n i high = record { normal = scaled (neg_ℤ (pos 1)) (unit n i); constant = high }

-- they have n coordinates
pub length-above_low : (n i : ℕ) (low : ℤ) → length (above_low n i low).normal ≡ n
unfolding above_low
length-above_low n i low = length-unit n i

-- both of them
pub length-below_high : (n i : ℕ) (high : ℤ) → length (below_high n i high).normal ≡ n
unfolding below_high
length-below_high n i high = length-scaled (neg_ℤ (pos 1)) (unit n i) ∙ length-unit n i

-- their values at x/d
pub above_low-over : (n i : ℕ) (low : ℤ) → i < n → (x : List ℤ) (d : ℤ) → value_over (above_low n i low) x d ≡ entry x i -ℤ d *ℤ low
unfolding above_low
above_low-over n i low h x d = let e = dot-unit n i x h in simp products_out (omega (arith, linear))

-- from above
pub below_high-over : (n i : ℕ) (high : ℤ) → i < n → (x : List ℤ) (d : ℤ) → value_over (below_high n i high) x d ≡ d *ℤ high -ℤ entry x i
unfolding below_high
below_high-over n i high h x d = let e = dot-scaled_left (neg_ℤ (pos 1)) (unit n i) x ∙ ap (λ (z : ℤ). neg_ℤ (pos 1) *ℤ z)
    (dot-unit n i x h) in minus
    (dot (scaled (neg_ℤ (pos 1)) (unit n i)) x) (entry x i) (d *ℤ high) e
  where
    minus : (a b c : ℤ) → a ≡ neg_ℤ (pos 1) *ℤ b → a +ℤ c ≡ c -ℤ b
    minus a b c e = let e' = simp products_out at e in omega (arith, linear)

-- at a point, and in a direction
pub above_low-value : (n i : ℕ) (low : ℤ) → i < n → (x : List ℤ) → value (above_low n i low) x ≡ entry x i -ℤ low
above_low-value n i low h x = sym (value_at_one (above_low n i low) x) ∙ above_low-over n i low h x (pos 1) ∙ simp products_out

-- the upper one at a point
pub below_high-value : (n i : ℕ) (high : ℤ) → i < n → (x : List ℤ) → value (below_high n i high) x ≡ high -ℤ entry x i
below_high-value n i high h x = sym (value_at_one (below_high n i high) x) ∙ below_high-over n i high h x (pos 1) ∙ simp products_out

-- the lower one in a direction
pub above_low-direction : (n i : ℕ) (low : ℤ) → i < n → (y : List ℤ) → value_over (above_low n i low) y (pos 0) ≡ entry y i
above_low-direction n i low h y = above_low-over n i low h y (pos 0) ∙ simp products_out (omega (arith, linear))

-- the upper one in a direction
pub below_high-direction : (n i : ℕ) (high : ℤ) → i < n → (y : List ℤ) → value_over (below_high n i high) y (pos 0) ≡ neg_ℤ (entry y i)
below_high-direction n i high h y = below_high-over n i high h y (pos 0) ∙ simp products_out (omega (arith, linear))
