-- No term has a power above the rank of the top.
use Rattle.std.proofs.Common.{◌≡◌, ℕ, ◌+◌, ◌-◌, ◌≤◌, true, ℤ, pos, ◌*ℤ◌, refl, ap, ◌∙◌, arith}
use Rattle.std.specs.List.{Contains}
use Rattle.lattice_theory.proofs.Members.{contains_from_in}
use Rattle.lattice_theory.proofs.Integers.{*ℤ-zero}
use Rattle.polynomial_theory.specs.Sums.{sum_over, sign}
use Rattle.polynomial_theory.specs.Series.{LaurentSeries, HasNoPowerAbove, times_at_ratio, times_at_product, power_of_minus_u}
use Rattle.stringy_theory.specs.FaceSeries.{FaceSeries, IsRanked, HaveSmallDegrees, HaveSmallDualDegrees, faces_to, faces_from}
use Rattle.stringy_theory.specs.Stringy.{numerator}
use Rattle.polynomial_theory.proofs.Sums.{sum_zero, sum_same_in, sum_filter_same}
use Rattle.polynomial_theory.proofs.HighPowers.{power_ends, product_ends, ratio_ends, ends_larger}

pub numerator_ends : {X : Type 0} (d : FaceSeries X) → IsRanked d → HaveSmallDegrees d → (top : ℕ) → HaveSmallDualDegrees top d → HasNoPowerAbove top top (numerator d)
numerator_ends {X = X} d ranked small top dual p q out = sum_same_in d.faces (λ f. sum_over (faces_to d f) (λ x. sum_over (faces_from d f)
    (λ y. sign (d.rank y - d.rank x) *ℤ term x f y p q))) (λ f. pos 0)
    (λ f j. sum_filter_same (λ x. d.below x f) d.faces (λ x. sum_over (faces_from d f) (λ y. sign (d.rank y - d.rank x) *ℤ term x f y p q)) (λ x. pos 0)
    (λ x i t. sum_filter_same (d.below f) d.faces (λ y. sign (d.rank y - d.rank x) *ℤ term x f y p q) (λ y. pos 0)
    (λ y l t'. ap (λ (z : ℤ). sign (d.rank y - d.rank x) *ℤ z) (ends x f y (contains_from_in i) (contains_from_in j)
    (contains_from_in l) t t' p q out) ∙ *ℤ-zero (sign (d.rank y - d.rank x)))
    ∙ sum_zero (faces_from d f) (λ y. pos 0) (λ y. refl))
    ∙ sum_zero (faces_to d f) (λ x. pos 0) (λ x. refl))
    ∙ sum_zero d.faces (λ f. pos 0) (λ f. refl)
  where
    term : X → X → X → LaurentSeries
    term x f y = times_at_ratio (d.h x) (times_at_ratio (d.g x f) (times_at_product (d.h_dual y) (times_at_product (d.g_dual f y) (power_of_minus_u (d.rank f)))))

    in_u : (x f y top : ℕ) → f ≤ y → y ≤ top → (f + (y - f)) + (top - y) ≤ top
    in_u x f y top h k = omega arith

    in_v : (x f y top : ℕ) → x ≤ f → f ≤ y → y ≤ top → (((0 + (y - f)) + (top - y)) + (f - x)) + x ≤ top
    in_v x f y top g h k = omega arith

    ends : (x f y : X) → Contains d.faces x → Contains d.faces f → Contains d.faces y → d.below x f ≡ true → d.below f y ≡ true → HasNoPowerAbove top top (term x f y)
    ends x f y i j l t t' = let a = d.rank x in let b = d.rank f in let c = d.rank y in
        let low = times_at_product (d.g_dual f y) (power_of_minus_u b) in let high = times_at_product (d.h_dual y) low in
        ends_larger ((b + (c - b)) + (top - c)) ((((0 + (c - b)) + (top - c)) + (b - a)) + a) top top (term x f y)
        (in_u a b c top (ranked.rises f y j l t') (dual.highest y l)) (in_v a b c top (ranked.rises x f i j t) (ranked.rises f y j l t') (dual.highest y l))
        (ratio_ends a ((b + (c - b)) + (top - c)) (((0 + (c - b)) + (top - c)) + (b - a)) (d.h x) (times_at_ratio (d.g x f) high) (small.counts x i)
        (ratio_ends (b - a) ((b + (c - b)) + (top - c)) ((0 + (c - b)) + (top - c)) (d.g x f) high (small.intervals x f i j t)
        (product_ends (top - c) (b + (c - b)) (0 + (c - b)) (d.h_dual y) low (dual.counts y l)
        (product_ends (c - b) b 0 (d.g_dual f y) (power_of_minus_u b) (dual.intervals f y j l t') (power_ends b)))))
