-- Steps of the loop that adds up a weighted value.
use Rattle.std.proofs.Common.{◌≡◌, ℕ, ◌+◌, ◌*◌, ◌<◌, ◌≤◌, List, [], ◌∷◌, zero, suc, ap, mul-add, mul_comm, length, drop, map, get_or, ℤ, pos, ◌+ℤ◌, ◌*ℤ◌, nat_abs, SFits, w64, refl, arith}
use Rattle.std.proofs.lemmas.Int.{ints, fits_signed_from_abs}
use Rattle.std.proofs.lemmas.List.{drop_more, drop_all}
use Rattle.lattice_theory.specs.Vector.{entry, dot}
use Rattle.lattice_core.specs.Weights.{total}
use Rattle.lattice_core.specs.declared.limits.TheConstants.{MOST_FRAME_ENTRY}
use Rattle.weight_frame.specs.Frame.{largest}
use Rattle.weight_frame.proofs.Bounds.{product_bound, sum_bound}
use Rattle.lattice_theory.proofs.Integers.{linear, first_terms}

-- before the first product
pub no_sum : (d : ℤ) → pos 0 +ℤ d ≡ d
no_sum d = omega (arith, linear)

-- one product, and what is left
value_drop : (w : List ℕ) (x : List ℤ) (i : ℕ) → i < length w → i < length x
    → dot (map pos (drop i w)) (drop i x) ≡ pos (get_or w i 0) *ℤ entry x i +ℤ dot (map pos (drop (i + 1) w)) (drop (i + 1) x)
value_drop w x i h k = rw (drop_more w i 0 h, drop_more x i (pos 0) k) refl

-- the sum so far and what is left make the whole
pub value_more : (w : List ℕ) (x : List ℤ) (i : ℕ) (s p t : ℤ) → i < length w → i < length x → p ≡ pos (get_or w i 0) *ℤ entry x i
    → t ≡ s +ℤ p
    → s +ℤ dot (map pos (drop i w)) (drop i x) ≡ dot (map pos w) x
    → t +ℤ dot (map pos (drop (i + 1) w)) (drop (i + 1) x) ≡ dot (map pos w) x
value_more w x i s p t h k m e d = first_terms s p (dot (map pos (drop (i + 1) w)) (drop (i + 1) x)) _ t e
    (rw m (rw (value_drop w x i h k) at d))

pub value_all : (w : List ℕ) (x : List ℤ) (i : ℕ) (s : ℤ) → length x ≤ i → length w ≡ length x
    → s +ℤ dot (map pos (drop i w)) (drop i x) ≡ dot (map pos w) x → s ≡ dot (map pos w) x
value_all w x i s h k e = let e' : s +ℤ pos 0 ≡ dot (map pos w) x = rw (drop_all i w (omega arith)) at e in omega (arith, linear)

-- a weight is at most the sum of all
pub total_drop : (w : List ℕ) (i : ℕ) → i < length w → total (drop i w) ≡ get_or w i 0 + total (drop (i + 1) w)
total_drop w i h = ap total (drop_more w i 0 h)

pub weight_at_most : (w : List ℕ) (i : ℕ) → get_or w i 0 ≤ total w
weight_at_most [] i = omega arith
weight_at_most (a ∷ w) zero = omega arith
weight_at_most (a ∷ w) (suc i) = let h = weight_at_most w i in omega arith

-- the size of the sum so far, and what the weights that are left may add
sum_size : (s p t : ℤ) (a left all : ℕ) → t ≡ s +ℤ p → nat_abs p ≤ MOST_FRAME_ENTRY * a
    → nat_abs s + MOST_FRAME_ENTRY * (a + left) ≤ MOST_FRAME_ENTRY * all → nat_abs t + MOST_FRAME_ENTRY * left ≤ MOST_FRAME_ENTRY * all
sum_size s p t a left all e h k = omega (arith, ints)

pub value_bound : (w : List ℕ) (i : ℕ) (s p t : ℤ) → i < length w → t ≡ s +ℤ p → nat_abs p ≤ MOST_FRAME_ENTRY * get_or w i 0
    → nat_abs s + MOST_FRAME_ENTRY * total (drop i w) ≤ MOST_FRAME_ENTRY * total w
    → nat_abs t + MOST_FRAME_ENTRY * total (drop (i + 1) w) ≤ MOST_FRAME_ENTRY * total w
value_bound w i s p t l e h k = sum_size s p t (get_or w i 0) (total (drop (i + 1) w)) (total w) e h (rw (total_drop w i l) at k)

pub value_fits : (w : List ℕ) (i : ℕ) (s p : ℤ) → total w ≤ 32_767 → i < length w → nat_abs p ≤ MOST_FRAME_ENTRY * get_or w i 0
    → nat_abs s + MOST_FRAME_ENTRY * total (drop i w) ≤ MOST_FRAME_ENTRY * total w → SFits w64 (s +ℤ p)
value_fits w i s p m l h k = let b = value_bound w i s p (s +ℤ p) l refl h k in fits_signed_from_abs w64 (s +ℤ p) (omega arith)

-- the size of a value
pub product_size : (a : ℕ) (x : ℤ) (m : ℕ) → nat_abs x ≤ m → nat_abs (pos a *ℤ x) ≤ m * a
product_size a x m h = rw mul_comm (product_bound (pos a) x a m (omega arith) h)

size_more : (a : ℕ) (x d : ℤ) (left m : ℕ) → nat_abs x ≤ m → nat_abs d ≤ m * left → nat_abs (pos a *ℤ x +ℤ d) ≤ m * (a + left)
size_more a x d left m h k = rw mul-add (sum_bound (pos a *ℤ x) d (m * a) (m * left) (product_size a x m h) k)

pub value_size : (w : List ℕ) (x : List ℤ) (m : ℕ) → largest x ≤ m → nat_abs (dot (map pos w) x) ≤ m * total w
value_size [] x m h = omega arith
value_size (a ∷ w) [] m h = omega arith
value_size (a ∷ w) (b ∷ x) m h = size_more a b (dot (map pos w) x) (total w) m (omega arith) (value_size w x m (omega arith))
