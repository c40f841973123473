-- No term has a negative power of u.
use Rattle.std.proofs.Common.{◌≡◌, ℕ, ◌+◌, ◌-◌, ◌≤◌, ◌⊎◌, inl, inr, Bool, true, false, ℤ, pos, ◌-ℤ◌, ◌*ℤ◌, ◌≤ℤ◌, refl, ap, ◌∙◌, arith}
use Rattle.lattice_theory.proofs.Integers.{linear, *ℤ-zero}
use Rattle.std.proofs.lemmas.Bool.{cases_Bool, cond-false}
use Rattle.std.specs.List.{Contains}
use Rattle.lattice_theory.proofs.Members.{contains_from_in}
use Rattle.polynomial_theory.specs.Sums.{sum_over, sign}
use Rattle.polynomial_theory.specs.Series.{LaurentSeries, HasNoPowerBelow, times_at_ratio, times_at_product, power_of_minus_u}
use Rattle.polynomial_theory.proofs.LowPowers.{power_starts, product_starts, ratio_starts, starts_lower}
use Rattle.stringy_theory.specs.FaceSeries.{FaceSeries, IsRanked, HaveSmallDegrees, faces_to, faces_from}
use Rattle.stringy_theory.specs.Stringy.{numerator, b}
use Rattle.polynomial_theory.proofs.Sums.{sum_zero, sum_same_in, sum_filter, sum_filter_same, kept}

-- one interval
enough : (a b : ℕ) → a ≤ b → pos 0 ≤ℤ ((pos b -ℤ pos (b - a)) -ℤ pos a)
enough a b h = let e = back a b h in omega (arith, linear)
  where
    back : (a b : ℕ) → a ≤ b → (b - a) + a ≡ b
    back a b h = omega arith

weaker : (a b : ℤ) → pos 0 ≤ℤ (a -ℤ b) → pos 0 ≤ℤ b → pos 0 ≤ℤ a
weaker a b h k = omega (arith, linear)

pub b_starts : {X : Type 0} (d : FaceSeries X) → IsRanked d → HaveSmallDegrees d → (x y : X) → Contains d.faces x → HasNoPowerBelow (pos 0) (b d x y)
b_starts {X = X} d ranked small x y i p q l = sum_filter (λ f. d.below f y) (faces_from d x) (λ f. part f p q)
    ∙ sum_filter (λ f. d.below x f) d.faces (λ f. kept (d.below f y) (part f p q))
    ∙ sum_same_in d.faces (λ f. kept (d.below x f) (kept (d.below f y) (part f p q))) (λ f. pos 0) (λ f j. none f (contains_from_in j) (cases_Bool (d.below x f)))
    ∙ sum_zero d.faces (λ f. pos 0) (λ f. refl)
  where
    part : X → LaurentSeries
    part f = times_at_ratio (d.g x f) (times_at_product (d.g_dual f y) (power_of_minus_u (d.rank f)))

    starts : (f : X) → Contains d.faces f → d.below x f ≡ true → part f p q ≡ pos 0
    starts f j t = starts_lower (pos (d.rank f) -ℤ pos (d.rank f - d.rank x)) (pos 0) (part f) (weaker (pos (d.rank f) -ℤ pos (d.rank f - d.rank x))
        (pos (d.rank x)) (enough (d.rank x) (d.rank f) (ranked.rises x f i j t)) (omega (arith, linear)))
        (ratio_starts (pos (d.rank f)) (d.rank f - d.rank x) (d.g x f) (times_at_product (d.g_dual f y) (power_of_minus_u (d.rank f))) (small.intervals x f i j t)
        (product_starts (pos (d.rank f)) (d.g_dual f y) (power_of_minus_u (d.rank f)) (power_starts (d.rank f)))) p q l

    zeros : (a c : Bool) (z : ℤ) → z ≡ pos 0 → kept a (kept c z) ≡ pos 0
    zeros true true z e = e
    zeros true false z e = refl
    zeros false c z e = refl

    none : (f : X) → Contains d.faces f → (d.below x f ≡ true) ⊎ (d.below x f ≡ false) → kept (d.below x f) (kept (d.below f y) (part f p q)) ≡ pos 0
    none f j (inl t) = zeros (d.below x f) (d.below f y) (part f p q) (starts f j t)
    none f j (inr t) = cond-false (d.below x f) (kept (d.below f y) (part f p q)) (pos 0) t

pub numerator_starts : {X : Type 0} (d : FaceSeries X) → IsRanked d → HaveSmallDegrees d → HasNoPowerBelow (pos 0) (numerator d)
numerator_starts {X = X} d ranked small p q l = sum_same_in d.faces (λ f. sum_over (faces_to d f) (λ x. sum_over (faces_from d f)
    (λ y. sign (d.rank y - d.rank x) *ℤ term x f y p q))) (λ f. pos 0)
    (λ f j. sum_filter_same (λ x. d.below x f) d.faces (λ x. sum_over (faces_from d f) (λ y. sign (d.rank y - d.rank x) *ℤ term x f y p q)) (λ x. pos 0)
    (λ x i t. sum_zero (faces_from d f) (λ y. sign (d.rank y - d.rank x) *ℤ term x f y p q) (λ y. ap
    (λ (z : ℤ). sign (d.rank y - d.rank x) *ℤ z) (starts x f y (contains_from_in i) (contains_from_in j) t p q l)
    ∙ *ℤ-zero (sign (d.rank y - d.rank x))))
    ∙ sum_zero (faces_to d f) (λ x. pos 0) (λ x. refl))
    ∙ sum_zero d.faces (λ f. pos 0) (λ f. refl)
  where
    term : X → X → X → LaurentSeries
    term x f y = times_at_ratio (d.h x) (times_at_ratio (d.g x f) (times_at_product (d.h_dual y) (times_at_product (d.g_dual f y) (power_of_minus_u (d.rank f)))))

    starts : (x f y : X) → Contains d.faces x → Contains d.faces f → d.below x f ≡ true → HasNoPowerBelow (pos 0) (term x f y)
    starts x f y i j t = starts_lower ((pos (d.rank f) -ℤ pos (d.rank f - d.rank x)) -ℤ pos (d.rank x)) (pos 0) (term x f y) (enough (d.rank x) (d.rank f) (ranked.rises x f i j t))
        (ratio_starts (pos (d.rank f) -ℤ pos (d.rank f - d.rank x)) (d.rank x) (d.h x) (times_at_ratio (d.g x f) (times_at_product (d.h_dual y)
        (times_at_product (d.g_dual f y) (power_of_minus_u (d.rank f))))) (small.counts x i)
        (ratio_starts (pos (d.rank f)) (d.rank f - d.rank x) (d.g x f) (times_at_product (d.h_dual y) (times_at_product (d.g_dual f y)
        (power_of_minus_u (d.rank f)))) (small.intervals x f i j t)
        (product_starts (pos (d.rank f)) (d.h_dual y) (times_at_product (d.g_dual f y) (power_of_minus_u (d.rank f)))
        (product_starts (pos (d.rank f)) (d.g_dual f y) (power_of_minus_u (d.rank f)) (power_starts (d.rank f))))))
