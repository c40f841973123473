-- Polynomials of degree 1 with small coefficients, as the tests make them.
use Rattle.std.proofs.Common.{◌≡◌, ℕ, ◌*◌, ◌^◌, ◌<◌, ◌≤◌, ◌==◌, Bool, true, false, cond, List, ℤ, pos, negsuc, ◌+ℤ◌, ◌-ℤ◌, ◌*ℤ◌, nat_abs, ap, ◌∙◌, arith}
use Rattle.std.proofs.Math.Nat.{mul-le-mul}
use Rattle.std.proofs.lemmas.Bool.{ne_eqb, cond-false}
use Rattle.std.proofs.lemmas.Int.{ints, unsigned_abs-mul}
use Rattle.lattice_theory.specs.Vector.{entry}
use Rattle.polynomial_theory.specs.Series.{LaurentSeries, HasDegreeAtMost, HasNoPowerBelow, HasNoPowerAbove, product, times, times_at_product}
use Rattle.polynomial_theory.proofs.Times.{times_same, times_none}
use Rattle.lattice_theory.proofs.Integers.{*ℤ-zero}
use Rattle.polynomial_theory.proofs.ProductDegrees.{product_degree_lem}
use Rattle.polynomial_theory.proofs.Places.{coefficient_size}
use Rattle.small_poly.specs.Tables.{laurent_of, term, times_both}
use Rattle.small_poly.specs.Sizes.{HasSmallSums, HasSmallTerms}
use Rattle.small_poly.proofs.SmallSums.{small_sums_lem, small_terms_lem}

-- one of two small numbers
chosen : (b : Bool) (x y : ℤ) → nat_abs x ≤ 3 → nat_abs y ≤ 3 → nat_abs (cond b x y) ≤ 3
chosen true x y h k = h
chosen false x y h k = k

small_zero : (x : ℤ) → x ≡ pos 0 → nat_abs x ≤ 3
small_zero x e = let f = ap nat_abs e in omega arith

-- two coefficients that are set
pub line_size : (none first second : List ℤ) (a b : ℤ) → ((k : ℕ) → entry none k ≡ pos 0) → ((k : ℕ) → entry first k ≡ cond (k == 0) a (entry none k))
    → ((k : ℕ) → entry second k ≡ cond (k == 1) b (entry first k)) → nat_abs a ≤ 3 → nat_abs b ≤ 3 → (k : ℕ) → nat_abs (entry second k) ≤ 3
line_size none first second a b z f s h l k = rw (s k) (chosen (k == 1) b (entry first k) l
    (rw (f k) (chosen (k == 0) a (entry none k) h (small_zero (entry none k) (z k)))))

pub line_degree : (none first second : List ℤ) (a b : ℤ) → ((k : ℕ) → entry none k ≡ pos 0) → ((k : ℕ) → entry first k ≡ cond (k == 0) a (entry none k))
    → ((k : ℕ) → entry second k ≡ cond (k == 1) b (entry first k)) → HasDegreeAtMost 1 (entry second)
line_degree none first second a b z f s k h = s k ∙ cond-false (k == 1) b (entry first k) (ne_eqb k 1 (λ e. absurd (omega arith)))
    ∙ f k ∙ cond-false (k == 0) a (entry none k) (ne_eqb k 0 (λ e. absurd (omega arith))) ∙ z k

-- what their sums, differences and products ask
pub lines_add : (x y : List ℤ) → ((k : ℕ) → nat_abs (entry x k) ≤ 3) → ((k : ℕ) → nat_abs (entry y k) ≤ 3)
    → (k : ℕ) → nat_abs (entry x k +ℤ entry y k) < 2 ^ 126
lines_add x y h l k = by (entry x k) (entry y k) (h k) (l k)
  where
    by : (a b : ℤ) → nat_abs a ≤ 3 → nat_abs b ≤ 3 → nat_abs (a +ℤ b) < 2 ^ 126
    by a b h k = omega (arith, ints)

pub lines_subtract : (x y : List ℤ) → ((k : ℕ) → nat_abs (entry x k) ≤ 3) → ((k : ℕ) → nat_abs (entry y k) ≤ 3)
    → (k : ℕ) → nat_abs (entry x k -ℤ entry y k) < 2 ^ 126
lines_subtract x y h l k = by (entry x k) (entry y k) (h k) (l k)
  where
    by : (a b : ℤ) → nat_abs a ≤ 3 → nat_abs b ≤ 3 → nat_abs (a -ℤ b) < 2 ^ 126
    by a b h k = omega (arith, ints)

pub lines_degree : (x y : List ℤ) → HasDegreeAtMost 1 (entry x) → HasDegreeAtMost 1 (entry y) → HasDegreeAtMost 8 (product (entry x) (entry y))
lines_degree x y d e k h = product_degree_lem 1 1 (entry x) (entry y) d e k (omega arith)

pub lines_sums : (x y : List ℤ) → HasDegreeAtMost 1 (entry x) → ((k : ℕ) → nat_abs (entry x k) ≤ 3) → ((k : ℕ) → nat_abs (entry y k) ≤ 3)
    → HasSmallSums (entry x) (entry y)
lines_sums x y d h l = small_sums_lem (entry x) (entry y) (λ k m. d k (omega arith)) (λ a b. by (entry x a) (entry y b) (h a) (l b))
  where
    by : (a b : ℤ) → nat_abs a ≤ 3 → nat_abs b ≤ 3 → nat_abs (a *ℤ b) ≤ 2 ^ 122
    by a b h k = let n : nat_abs (a *ℤ b) ≤ 3 * 3 = rw unsigned_abs-mul (mul-le-mul h k) in omega arith

-- what a term of two of them asks
lines_product : (x y : List ℤ) → ((k : ℕ) → nat_abs (entry x k) ≤ 3) → ((k : ℕ) → nat_abs (entry y k) ≤ 3) → (a b : ℕ) → nat_abs (entry x a *ℤ entry y b) ≤ 3 * 3
lines_product x y h l a b = rw unsigned_abs-mul (mul-le-mul (h a) (l b))

pub lines_products : (x y : List ℤ) → ((k : ℕ) → nat_abs (entry x k) ≤ 3) → ((k : ℕ) → nat_abs (entry y k) ≤ 3)
    → (a b : ℕ) → nat_abs (entry x a *ℤ entry y b) ≤ 2 ^ 126
lines_products x y h l a b = let m = lines_product x y h l a b in omega arith

pub lines_term : (none x y : List ℤ) (r : ℕ) → ((p : ℤ) (q : ℕ) → laurent_of none p q ≡ pos 0) → ((k : ℕ) → nat_abs (entry x k) ≤ 3)
    → ((k : ℕ) → nat_abs (entry y k) ≤ 3) → (i j : ℕ) → nat_abs (laurent_of none (pos i) j +ℤ term (negsuc 0) r (entry x) (entry y) (pos i) j) < 2 ^ 126
lines_term none x y r z h l i j = by (laurent_of none (pos i) j) (term (negsuc 0) r (entry x) (entry y) (pos i) j) (z (pos i) j)
    (coefficient_size (negsuc 0) r i j (entry x) (entry y) 9 (λ a b. turned (entry x a *ℤ entry y b) (lines_product x y h l a b)))
  where
    by : (a b : ℤ) → a ≡ pos 0 → nat_abs b ≤ 9 → nat_abs (a +ℤ b) < 2 ^ 126
    by a b e h = omega (arith, ints)

    turned : (z : ℤ) → nat_abs z ≤ 3 * 3 → nat_abs (negsuc 0 *ℤ z) ≤ 9
    turned z h = omega (arith, ints)

pub nothing_added : (x y : List ℤ) → ((p : ℤ) (q : ℕ) → laurent_of x p q ≡ pos 0) → ((p : ℤ) (q : ℕ) → laurent_of y p q ≡ pos 0)
    → (i j : ℕ) → nat_abs (laurent_of x (pos i) j +ℤ laurent_of y (pos i) j) < 2 ^ 126
nothing_added x y z w i j = by (laurent_of x (pos i) j) (laurent_of y (pos i) j) (z (pos i) j) (w (pos i) j)
  where
    by : (a b : ℤ) → a ≡ pos 0 → b ≡ pos 0 → nat_abs (a +ℤ b) < 2 ^ 126
    by a b e f = omega (arith, ints)

-- what a product of two of them and nothing asks
zero_times : (s : ℤ) (x : List ℤ) (f : LaurentSeries) → ((p : ℤ) (q : ℕ) → f p q ≡ pos 0) → (p : ℤ) (q : ℕ) → times s (entry x) f p q ≡ pos 0
zero_times s x f z p q = times_same s (entry x) f (λ p q. pos 0) z p q ∙ times_none s (entry x) p q

none_both : (x y none : List ℤ) → ((p : ℤ) (q : ℕ) → laurent_of none p q ≡ pos 0) → (p : ℤ) (q : ℕ) → times_both (entry x) (entry y) (laurent_of none) p q ≡ pos 0
none_both x y none z = zero_times (negsuc 0) x (times_at_product (entry y) (laurent_of none)) (zero_times (pos 1) y (laurent_of none) z)

pub none_below : (x y none : List ℤ) → ((p : ℤ) (q : ℕ) → laurent_of none p q ≡ pos 0)
    → HasNoPowerBelow (pos 0) (times_both (entry x) (entry y) (laurent_of none))
none_below x y none z p q h = none_both x y none z p q

pub none_above : (x y none : List ℤ) → ((p : ℤ) (q : ℕ) → laurent_of none p q ≡ pos 0)
    → HasNoPowerAbove 16 16 (times_both (entry x) (entry y) (laurent_of none))
none_above x y none z p q h = none_both x y none z p q

no_product : (x : List ℤ) (f : LaurentSeries) → ((p : ℤ) (q : ℕ) → f p q ≡ pos 0) → (a : ℕ) (p : ℤ) (q : ℕ) → nat_abs (entry x a *ℤ f p q) ≤ 2 ^ 122
no_product x f z a p q = let e = ap (λ (t : ℤ). nat_abs (entry x a *ℤ t)) (z p q) ∙ ap nat_abs (*ℤ-zero (entry x a)) in omega arith

pub none_first : (y none : List ℤ) → ((p : ℤ) (q : ℕ) → laurent_of none p q ≡ pos 0) → HasDegreeAtMost 1 (entry y)
    → HasSmallTerms (pos 1) (entry y) (laurent_of none)
none_first y none z d = small_terms_lem (pos 1) (entry y) (laurent_of none) (λ k m. d k (omega arith)) (no_product y (laurent_of none) z)

pub none_second : (x y none : List ℤ) → ((p : ℤ) (q : ℕ) → laurent_of none p q ≡ pos 0) → HasDegreeAtMost 1 (entry x)
    → HasSmallTerms (negsuc 0) (entry x) (times_at_product (entry y) (laurent_of none))
none_second x y none z d = small_terms_lem (negsuc 0) (entry x) (times_at_product (entry y) (laurent_of none)) (λ k m. d k (omega arith))
    (no_product x (times_at_product (entry y) (laurent_of none)) (zero_times (pos 1) y (laurent_of none) z))

pub none_added : (old x y none : List ℤ) → ((p : ℤ) (q : ℕ) → laurent_of old p q ≡ pos 0) → ((p : ℤ) (q : ℕ) → laurent_of none p q ≡ pos 0)
    → (i j : ℕ) → nat_abs (laurent_of old (pos i) j +ℤ negsuc 0 *ℤ times_both (entry x) (entry y) (laurent_of none) (pos i) j) < 2 ^ 126
none_added old x y none w z i j = by (laurent_of old (pos i) j) (times_both (entry x) (entry y) (laurent_of none) (pos i) j) (w (pos i) j) (none_both x y none z (pos i) j)
  where
    by : (a b : ℤ) → a ≡ pos 0 → b ≡ pos 0 → nat_abs (a +ℤ negsuc 0 *ℤ b) < 2 ^ 126
    by a b e f = omega (arith, ints)
