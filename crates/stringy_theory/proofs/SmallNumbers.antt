-- How large S~ and the numerator are.
use Rattle.std.proofs.Common.{◌≡◌, ℕ, zero, suc, ◌+◌, ◌-◌, ◌*◌, ◌^◌, ◌≤◌, ◌⊎◌, Bool, true, false, List, [], ◌∷◌, length, ℤ, pos}
use Rattle.std.proofs.Common.{◌+ℤ◌, ◌*ℤ◌, neg_ℤ, nat_abs, refl, sym, ap, ◌∙◌, arith}
use Rattle.std.proofs.Math.Nat.{mul-suc, mul-le-mul}
use Rattle.std.proofs.lemmas.Int.{ints, unsigned_abs-mul}
use Rattle.std.proofs.lemmas.Bool.{cases_Bool}
use Rattle.std.specs.List.{Contains}
use Rattle.lattice_theory.proofs.Integers.{*ℤ-zero, one-*ℤ, neg-*ℤ}
use Rattle.lattice_theory.proofs.Members.{In, here, there, contains_from_in}
use Rattle.polynomial_theory.specs.Sums.{sum_over, sum_of_splits, sign}
use Rattle.polynomial_theory.specs.Series.{Series, product, times_at_ratio, times_at_product, power_of_minus_u}
use Rattle.polynomial_theory.proofs.Sums.{kept, sum_filter}
use Rattle.polynomial_theory.proofs.LowPowers.{splits_zero}
use Rattle.polynomial_theory.proofs.Places.{coefficient_size}
use Rattle.stringy_theory.specs.FaceSeries.{FaceSeries, IsRanked, HaveSmallCoefficients}
use Rattle.stringy_theory.specs.Stringy.{numerator, s_tilde, s_tilde_dual}
use Rattle.stringy_theory.proofs.Differences.{splits_last}
use Rattle.stringy_theory.proofs.Numerator.{numerator_by_faces_lem}

-- one term more
triangle : (a b : ℤ) → nat_abs (a +ℤ b) ≤ nat_abs a + nat_abs b
triangle a b = omega (arith, ints)

more : (m n a b c : ℕ) → c ≤ a + b → a ≤ m → b ≤ m * n → c ≤ m * suc n
more m n a b c h k l = rw (mul-suc m n) (omega arith)

same_size : (a b : ℤ) (m : ℕ) → a ≡ b → nat_abs b ≤ m → nat_abs a ≤ m
same_size a b m e h = rw e h

-- a sum of terms of size at most m
pub sum_bound : {X : Type 0} (m : ℕ) (xs : List X) (f : X → ℤ) → ((x : X) → In x xs → nat_abs (f x) ≤ m) → nat_abs (sum_over xs f) ≤ m * length xs
sum_bound m [] f h = omega arith
sum_bound m (x ∷ xs) f h = more m (length xs) (nat_abs (f x)) (nat_abs (sum_over xs f)) (nat_abs (f x +ℤ sum_over xs f)) (triangle (f x) (sum_over xs f))
    (h x here) (sum_bound m xs f (λ y i. h y (there i)))

-- a sum over splits that has few terms
pub few_splits : (m left n : ℕ) (f : ℕ → ℕ → ℤ) → ((a b : ℕ) → nat_abs (f a b) ≤ m) → ((a b : ℕ) → left ≤ b → f a b ≡ pos 0)
    → nat_abs (sum_of_splits n f) ≤ m * left
few_splits m zero n f h z = same_size (sum_of_splits n f) (pos 0) (m * 0) (splits_zero n f (λ a b. z a b (omega arith))) (omega arith)
few_splits m (suc left) zero f h z = more m left (nat_abs (f 0 0)) 0 (nat_abs (f 0 0)) (omega arith) (h 0 0) (omega arith)
few_splits m (suc left) (suc n) f h z = same_size (sum_of_splits (suc n) f) (sum_of_splits n (λ a b. f a (suc b)) +ℤ f (suc n) 0) (m * suc left) (splits_last n f)
    (more m left (nat_abs (f (suc n) 0)) (nat_abs (sum_of_splits n (λ a b. f a (suc b)))) (nat_abs (sum_of_splits n (λ a b. f a (suc b)) +ℤ f (suc n) 0))
    (let t = triangle (sum_of_splits n (λ a b. f a (suc b))) (f (suc n) 0) in omega arith) (h (suc n) 0)
    (few_splits m left n (λ a b. f a (suc b)) (λ a b. h a (suc b)) (λ a b l. z a (suc b) (omega arith))))

-- products of two numbers
factors : (a b : ℤ) (m n : ℕ) → nat_abs a ≤ m → nat_abs b ≤ n → nat_abs (a *ℤ b) ≤ m * n
factors a b m n h k = rw unsigned_abs-mul (mul-le-mul h k)

signed_size : (n : ℕ) (z : ℤ) → nat_abs (sign n *ℤ z) ≡ nat_abs z
signed_size zero z = ap nat_abs (one-*ℤ z)
signed_size (suc n) z = ap nat_abs (neg-*ℤ (sign n) z) ∙ turned (sign n *ℤ z) ∙ signed_size n z
  where
    turned : (z : ℤ) → nat_abs (neg_ℤ z) ≡ nat_abs z
    turned z = omega (arith, ints)

-- a coefficient of h* G
pub product_bound : (A B : Series) → ((a : ℕ) → nat_abs (A a) ≤ 2 ^ 28) → ((b : ℕ) → nat_abs (B b) ≤ 2 ^ 12) → ((b : ℕ) → 4 ≤ b → B b ≡ pos 0)
    → (k : ℕ) → nat_abs (product A B k) ≤ 2 ^ 42
product_bound A B h g z k =
    let e = few_splits (2 ^ 40) 4 k (λ a b. A a *ℤ B b) (λ a b. let f = factors (A a) (B b) (2 ^ 28) (2 ^ 12) (h a) (g b) in omega arith)
    (λ a b l. ap (λ (x : ℤ). A a *ℤ x) (z b l) ∙ *ℤ-zero (A a)) in
    omega arith

-- a sum over the faces that pass a test
tested : {X : Type 0} (m : ℕ) (xs : List X) (test : X → Bool) (f : X → ℤ) → ((x : X) → In x xs → test x ≡ true → nat_abs (f x) ≤ m)
    → nat_abs (sum_over xs (λ x. kept (test x) (f x))) ≤ m * length xs
tested {X = X} m xs test f h = sum_bound m xs (λ x. kept (test x) (f x)) (λ x i. by x (cases_Bool (test x)) (h x i))
  where
    counted : (b : Bool) (z : ℤ) → (b ≡ true → nat_abs z ≤ m) → nat_abs (kept b z) ≤ m
    counted true z h = h refl
    counted false z h = omega arith

    by : (x : X) → (test x ≡ true) ⊎ (test x ≡ false) → (test x ≡ true → nat_abs (f x) ≤ m) → nat_abs (kept (test x) (f x)) ≤ m
    by x c h = counted (test x) (f x) h

-- the two S~
module _ {X : Type 0} (d : FaceSeries X) (small : HaveSmallCoefficients d) where
  summed : (z : ℤ) → nat_abs z ≤ 2 ^ 42 * length d.faces → nat_abs z ≤ 2 ^ 54
  summed z h = let f = small.few in omega arith

  pub s_tilde_bound : (f : X) → Contains d.faces f → (k : ℕ) → nat_abs (s_tilde d f k) ≤ 2 ^ 54
  s_tilde_bound f j k = summed (s_tilde d f k)
      (same_size (s_tilde d f k) (sum_over d.faces (λ x. kept (d.below x f) (term x))) (2 ^ 42 * length d.faces)
      (sum_filter (λ x. d.below x f) d.faces term)
      (tested (2 ^ 42) d.faces (λ x. d.below x f) term (λ x i t. bound x (contains_from_in i) t)))
    where
      term : X → ℤ
      term x = sign (d.rank f - d.rank x) *ℤ product (d.h x) (d.g x f) k

      bound : (x : X) → Contains d.faces x → d.below x f ≡ true → nat_abs (term x) ≤ 2 ^ 42
      bound x i t = let e = signed_size (d.rank f - d.rank x) (product (d.h x) (d.g x f) k) in
          let b = product_bound (d.h x) (d.g x f) (small.h x i) (small.g x f i j t) (small.g_degree x f i j t) k in
          omega arith

  pub s_tilde_dual_bound : (f : X) → Contains d.faces f → (k : ℕ) → nat_abs (s_tilde_dual d f k) ≤ 2 ^ 54
  s_tilde_dual_bound f j k = summed (s_tilde_dual d f k)
      (same_size (s_tilde_dual d f k) (sum_over d.faces (λ y. kept (d.below f y) (term y))) (2 ^ 42 * length d.faces)
      (sum_filter (λ y. d.below f y) d.faces term)
      (tested (2 ^ 42) d.faces (λ y. d.below f y) term (λ y i t. bound y (contains_from_in i) t)))
    where
      term : X → ℤ
      term y = sign (d.rank y - d.rank f) *ℤ product (d.h_dual y) (d.g_dual f y) k

      bound : (y : X) → Contains d.faces y → d.below f y ≡ true → nat_abs (term y) ≤ 2 ^ 42
      bound y i t = let e = signed_size (d.rank y - d.rank f) (product (d.h_dual y) (d.g_dual f y) k) in
          let b = product_bound (d.h_dual y) (d.g_dual f y) (small.h_dual y i) (small.g_dual f y j i t) (small.g_dual_degree f y j i t) k in
          omega arith

-- one coefficient of one face
pub coefficient_bound : (r p q : ℕ) (A B : Series) → ((k : ℕ) → nat_abs (A k) ≤ 2 ^ 54) → ((k : ℕ) → nat_abs (B k) ≤ 2 ^ 54)
    → nat_abs (times_at_ratio A (times_at_product B (power_of_minus_u r)) (pos p) q) ≤ 2 ^ 108
coefficient_bound r p q A B h k = coefficient_size (sign r) r p q A B (2 ^ 108)
    (λ a b. let s = signed_size r (A a *ℤ B b) in let m = factors (A a) (B b) (2 ^ 54) (2 ^ 54) (h a) (k b) in omega arith)

-- all of them
pub numerator_bound : {X : Type 0} (d : FaceSeries X) → IsRanked d → HaveSmallCoefficients d → (p q : ℕ) → nat_abs (numerator d (pos p) q) ≤ 2 ^ 120
numerator_bound {X = X} d ranked small p q = same_size (numerator d (pos p) q) sum (2 ^ 120) (sym (numerator_by_faces_lem d ranked (pos p) q))
    (let b = sum_bound (2 ^ 108) d.faces term (λ f i. coefficient_bound (d.rank f) p q (s_tilde d f) (s_tilde_dual d f)
    (s_tilde_bound d small f (contains_from_in i)) (s_tilde_dual_bound d small f (contains_from_in i))) in
    let f = small.few in omega arith)
  where
    term : X → ℤ
    term f = times_at_ratio (s_tilde d f) (times_at_product (s_tilde_dual d f) (power_of_minus_u (d.rank f))) (pos p) q

    sum : ℤ
    sum = sum_over d.faces term
