-- Orders that are alike have the same polynomials G and G', and faces that are alike the same numerator.
use Rattle.std.proofs.Common.{◌≡◌, ℕ, zero, suc, ◌*◌, ◌-◌, nat_lt, Bool, not, ◌&&◌, List, [], ◌∷◌, ℤ, pos, negsuc, ◌*ℤ◌, refl, ap, ap₂, ◌∙◌}
use Rattle.std.proofs.Math.Bool.{cond}
use Rattle.std.specs.List.{filter}
use Rattle.lattice_theory.proofs.Members.{In, here, there}
use Rattle.polynomial_theory.specs.Sums.{sum_over, sign}
use Rattle.polynomial_theory.specs.Series.{Series, product, power, one, t_minus_1, one_minus_t, part_below_half, times_at_ratio, times_at_product, power_of_minus_u}
use Rattle.polynomial_theory.proofs.Sums.{sum_same_in, sum_filter_same, splits_same}
use Rattle.polynomial_theory.proofs.Times.{times_same, times_same_left}
use Rattle.stringy_theory.specs.Eulerian.{Order, strictly, sum_above, g_within, g, upside_down, g_dual}
use Rattle.stringy_theory.specs.FaceSeries.{FaceSeries, faces_to, faces_from}
use Rattle.stringy_theory.specs.Stringy.{numerator}

-- the same test of the members
pub filter_alike : (p q : ℕ → Bool) (xs : List ℕ) → ((x : ℕ) → In x xs → p x ≡ q x) → filter p xs ≡ filter q xs
filter_alike p q [] h = refl
filter_alike p q (x ∷ xs) h = ap (λ (c : Bool). cond c (x ∷ filter p xs) (filter p xs)) (h x here)
    ∙ ap (λ (ys : List ℕ). cond (q x) (x ∷ ys) ys) (filter_alike p q xs (λ y i. h y (there i)))

-- the same terms of the members that pass
pub sum_alike : (xs : List ℕ) (p q : ℕ → Bool) (f h : ℕ → ℤ) → ((x : ℕ) → In x xs → p x ≡ q x) → ((x : ℕ) → In x xs → f x ≡ h x)
    → sum_over (filter p xs) f ≡ sum_over (filter q xs) h
sum_alike xs p q f h s t = sum_filter_same p xs f h (λ x i e. t x i) ∙ ap (λ (ys : List ℕ). sum_over ys h) (filter_alike p q xs s)

-- the same second factor
second_same : (A B C : Series) → ((k : ℕ) → B k ≡ C k) → (k : ℕ) → product A B k ≡ product A C k
second_same A B C h k = splits_same k (λ a b. A a *ℤ B b) (λ a b. A a *ℤ C b) (λ a b. ap (λ (z : ℤ). A a *ℤ z) (h b))

-- two orders of the same members
pub record AreAlike (o p : Order ℕ) : Type 0 where
  pub members : o.members ≡ p.members
  pub below : (x y : ℕ) → In x o.members → In y o.members → o.below x y ≡ p.below x y
  pub gap : (x y : ℕ) → In x o.members → In y o.members → o.gap x y ≡ p.gap x y

pub alike_down : (o p : Order ℕ) → AreAlike o p → AreAlike (upside_down o) (upside_down p)
alike_down o p s = record { members = s.members; below = λ x y i j. s.below y x j i; gap = λ x y i j. s.gap y x j i }

module _ (o p : Order ℕ) (s : AreAlike o p) where
  strictly_alike : (x y : ℕ) → In x o.members → In y o.members → strictly o x y ≡ strictly p x y
  strictly_alike x y i j = ap₂ (λ (a b : Bool). a && not b) (s.below x y i j) (s.below y x j i)

  sums_alike : (G K : ℕ → ℕ → Series) (x y : ℕ) → In x o.members → In y o.members
      → ((z : ℕ) → In z o.members → (k : ℕ) → G z y k ≡ K z y k) → (k : ℕ) → sum_above o G x y k ≡ sum_above p K x y k
  sums_alike G K x y i j h k = sum_alike o.members (λ z. strictly o x z && o.below z y) (λ z. strictly p x z && p.below z y)
      (λ z. product (power t_minus_1 (o.gap x z - 1)) (G z y) k) (λ z. product (power t_minus_1 (p.gap x z - 1)) (K z y) k)
      (λ z l. ap₂ (λ (a b : Bool). a && b) (strictly_alike x z i l) (s.below z y l j))
      (λ z l. ap (λ (n : ℕ). product (power t_minus_1 (n - 1)) (G z y) k) (s.gap x z i l)
      ∙ second_same (power t_minus_1 (p.gap x z - 1)) (G z y) (K z y) (h z l) k)
      ∙ ap (λ (ms : List ℕ). sum_over (filter (λ z. strictly p x z && p.below z y) ms) (λ z. product (power t_minus_1 (p.gap x z - 1)) (K z y) k)) s.members

  step_alike : (G K : ℕ → ℕ → Series) (x y : ℕ) → In x o.members → In y o.members
      → ((z : ℕ) → In z o.members → (k : ℕ) → G z y k ≡ K z y k) → (k : ℕ)
      → part_below_half (o.gap x y) (product one_minus_t (sum_above o G x y)) k ≡ part_below_half (p.gap x y) (product one_minus_t (sum_above p K x y)) k
  step_alike G K x y i j h k = ap (λ (n : ℕ). part_below_half n (product one_minus_t (sum_above o G x y)) k) (s.gap x y i j)
      ∙ ap (λ (z : ℤ). cond (nat_lt (2 * k) (p.gap x y)) z (pos 0))
      (second_same one_minus_t (sum_above o G x y) (sum_above p K x y) (sums_alike G K x y i j h) k)

  within_alike : (n x y : ℕ) → In x o.members → In y o.members → (k : ℕ) → g_within o n x y k ≡ g_within p n x y k
  within_alike zero x y i j k = refl
  within_alike (suc n) x y i j k =
      ap (λ (c : Bool). cond c (part_below_half (o.gap x y) (product one_minus_t (sum_above o (g_within o n) x y)) k) (one k)) (strictly_alike x y i j)
      ∙ ap (λ (z : ℤ). cond (strictly p x y) z (one k))
      (step_alike (g_within o n) (g_within p n) x y i j (λ z l m. within_alike n z y l j m) k)

  pub g_alike : (x y : ℕ) → In x o.members → In y o.members → (k : ℕ) → g o x y k ≡ g p x y k
  g_alike x y i j k = ap (λ (n : ℕ). g_within o n x y k) (s.gap x y i j) ∙ within_alike (p.gap x y) x y i j k

pub g_dual_alike : (o p : Order ℕ) → AreAlike o p → (x y : ℕ) → In x o.members → In y o.members → (k : ℕ) → g_dual o x y k ≡ g_dual p x y k
g_dual_alike o p s x y i j k = g_alike (upside_down o) (upside_down p) (alike_down o p s) y x j i k

-- two lists of the same faces, with the same polynomials
pub record HaveAlike (d e : FaceSeries ℕ) : Type 0 where
  pub faces : d.faces ≡ e.faces
  pub below : (x y : ℕ) → In x d.faces → In y d.faces → d.below x y ≡ e.below x y
  pub rank : (x : ℕ) → In x d.faces → d.rank x ≡ e.rank x
  pub h : (x : ℕ) → In x d.faces → (k : ℕ) → d.h x k ≡ e.h x k
  pub h_dual : (y : ℕ) → In y d.faces → (k : ℕ) → d.h_dual y k ≡ e.h_dual y k
  pub g : (x y : ℕ) → In x d.faces → In y d.faces → (k : ℕ) → d.g x y k ≡ e.g x y k
  pub g_dual : (x y : ℕ) → In x d.faces → In y d.faces → (k : ℕ) → d.g_dual x y k ≡ e.g_dual x y k

module _ (d e : FaceSeries ℕ) (s : HaveAlike d e) (p : ℤ) (q : ℕ) where
  abbrev factors : FaceSeries ℕ → ℕ → ℕ → ℕ → ℤ
  factors d f x y = times_at_ratio (d.h x) (times_at_ratio (d.g x f) (times_at_product (d.h_dual y)
      (times_at_product (d.g_dual f y) (power_of_minus_u (d.rank f))))) p q

  abbrev terms : FaceSeries ℕ → ℕ → ℕ → ℕ → ℤ
  terms d f x y = sign (d.rank y - d.rank x) *ℤ factors d f x y

  factors_alike : (f x y : ℕ) → In f d.faces → In x d.faces → In y d.faces → factors d f x y ≡ factors e f x y
  factors_alike f x y i j l =
      let power_d = power_of_minus_u (d.rank f) in
      let power_e = power_of_minus_u (e.rank f) in
      let dual_d = times_at_product (d.g_dual f y) power_d in
      let dual_e = times_at_product (e.g_dual f y) power_e in
      let star_d = times_at_product (d.h_dual y) dual_d in
      let star_e = times_at_product (e.h_dual y) dual_e in
      let low_d = times_at_ratio (d.g x f) star_d in
      let low_e = times_at_ratio (e.g x f) star_e in
      times_same_left (negsuc 0) (d.h x) (e.h x) low_d (s.h x j) p q
      ∙ times_same (negsuc 0) (e.h x) low_d low_e (λ p q. times_same_left (negsuc 0) (d.g x f) (e.g x f) star_d (s.g x f j i) p q
      ∙ times_same (negsuc 0) (e.g x f) star_d star_e (λ p q. times_same_left (pos 1) (d.h_dual y) (e.h_dual y) dual_d (s.h_dual y l) p q
      ∙ times_same (pos 1) (e.h_dual y) dual_d dual_e (λ p q. times_same_left (pos 1) (d.g_dual f y) (e.g_dual f y) power_d (s.g_dual f y i l) p q
      ∙ times_same (pos 1) (e.g_dual f y) power_d power_e (λ p q. ap (λ (n : ℕ). power_of_minus_u n p q) (s.rank f i)) p q) p q) p q) p q

  terms_alike : (f x y : ℕ) → In f d.faces → In x d.faces → In y d.faces → terms d f x y ≡ terms e f x y
  terms_alike f x y i j l = ap₂ (λ (m n : ℕ). sign (m - n) *ℤ factors d f x y) (s.rank y l) (s.rank x j)
      ∙ ap (λ (z : ℤ). sign (e.rank y - e.rank x) *ℤ z) (factors_alike f x y i j l)

  pub numerator_alike : numerator d p q ≡ numerator e p q
  numerator_alike =
      sum_same_in d.faces (λ f. sum_over (faces_to d f) (λ x. sum_over (faces_from d f) (λ y. terms d f x y)))
      (λ f. sum_over (filter (λ x. e.below x f) d.faces) (λ x. sum_over (filter (λ y. e.below f y) d.faces) (λ y. terms e f x y)))
      (λ f i. sum_alike d.faces (λ x. d.below x f) (λ x. e.below x f) (λ x. sum_over (faces_from d f) (λ y. terms d f x y))
      (λ x. sum_over (filter (λ y. e.below f y) d.faces) (λ y. terms e f x y)) (λ x j. s.below x f j i)
      (λ x j. sum_alike d.faces (λ y. d.below f y) (λ y. e.below f y) (λ y. terms d f x y) (λ y. terms e f x y) (λ y l. s.below f y i l)
      (λ y l. terms_alike f x y i j l)))
      ∙ ap (λ (fs : List ℕ). sum_over fs (λ f. sum_over (filter (λ x. e.below x f) fs) (λ x. sum_over (filter (λ y. e.below f y) fs)
      (λ y. terms e f x y)))) s.faces
