-- The two groupings of the numerator.
use Rattle.std.proofs.Common.{◌≡◌, ℕ, ◌+◌, ◌-◌, ◌≤◌, Bool, true, false, ℤ, pos, negsuc, ◌*ℤ◌, refl, sym, ap, ◌∙◌, arith}
use Rattle.lattice_theory.proofs.Integers.{*ℤ_assoc}
use Rattle.lattice_theory.proofs.Members.{In, contains_from_in}
use Rattle.polynomial_theory.specs.Sums.{sum_over, sign}
use Rattle.polynomial_theory.specs.Series.{LaurentSeries, times_at_ratio, times_at_product, power_of_minus_u}
use Rattle.stringy_theory.specs.FaceSeries.{FaceSeries, IsRanked, faces_to, faces_from, faces_between}
use Rattle.stringy_theory.specs.Stringy.{numerator, b, s_tilde, s_tilde_dual}
use Rattle.polynomial_theory.proofs.Sums.{sum_same, sum_same_in, sum_scaled, sum_exchange, sum_filter, sum_filter_same, sum_kept, kept, sign_product}
use Rattle.polynomial_theory.proofs.Times.{times_same, times_sum, times_exchange, times_combination, times_combination_left}

-- what the order already says
kept_through : (a b c : Bool) (z : ℤ) → (a ≡ true → b ≡ true → c ≡ true) → kept c (kept a (kept b z)) ≡ kept a (kept b z)
kept_through true true true z h = refl
kept_through true true false z h = ap (λ (c : Bool). kept c z) (h refl refl)
kept_through true false true z h = refl
kept_through true false false z h = refl
kept_through false b true z h = refl
kept_through false b false z h = refl

-- the sum over X <= Y and all F between is the sum over F and all X below and Y above
pub regroup : {X : Type 0} (d : FaceSeries X) → IsRanked d → (w : X → X → X → ℤ)
    → sum_over d.faces (λ x. sum_over (faces_from d x) (λ y. sum_over (faces_between d x y) (λ f. w x f y)))
    ≡ sum_over d.faces (λ f. sum_over (faces_to d f) (λ x. sum_over (faces_from d f) (λ y. w x f y)))
regroup {X = X} d ranked w = sum_same_in d.faces (λ x. sum_over (faces_from d x) (λ y. sum_over (faces_between d x y) (λ f. w x f y)))
    (λ x. sum_over d.faces (λ f. sum_over d.faces (λ y. both x f y))) by_pairs
    ∙ sum_exchange d.faces d.faces (λ x f. sum_over d.faces (λ y. both x f y))
    ∙ sym (sum_same d.faces (λ f. sum_over (faces_to d f) (λ x. sum_over (faces_from d f) (λ y. w x f y))) (λ f. sum_over d.faces
    (λ x. sum_over d.faces (λ y. both x f y))) by_faces)
  where
    both : X → X → X → ℤ
    both x f y = kept (d.below x f) (kept (d.below f y) (w x f y))

    between : (x y : X) → sum_over (faces_between d x y) (λ f. w x f y) ≡ sum_over d.faces (λ f. both x f y)
    between x y = sum_filter (λ f. d.below f y) (faces_from d x) (λ f. w x f y) ∙ sum_filter (λ f. d.below x f) d.faces (λ f. kept (d.below f y) (w x f y))

    pair : (x y : X) → In x d.faces → In y d.faces → kept (d.below x y) (sum_over (faces_between d x y) (λ f. w x f y)) ≡ sum_over d.faces (λ f. both x f y)
    pair x y i j = ap (kept (d.below x y)) (between x y) ∙ sym (sum_kept (d.below x y) d.faces (λ f. both x f y))
        ∙ sum_same_in d.faces (λ f. kept (d.below x y) (both x f y)) (λ f. both x f y)
        (λ f k. kept_through (d.below x f) (d.below f y) (d.below x y) (w x f y) (ranked.transitive x f y (contains_from_in i) (contains_from_in k) (contains_from_in j)))

    by_pairs : (x : X) → In x d.faces → sum_over (faces_from d x) (λ y. sum_over (faces_between d x y) (λ f. w x f y)) ≡ sum_over d.faces (λ f. sum_over d.faces (λ y. both x f y))
    by_pairs x i = sum_filter (d.below x) d.faces (λ y. sum_over (faces_between d x y) (λ f. w x f y))
        ∙ sum_same_in d.faces (λ y. kept (d.below x y) (sum_over (faces_between d x y) (λ f. w x f y))) (λ y. sum_over d.faces (λ f. both x f y)) (λ y j. pair x y i j)
        ∙ sum_exchange d.faces d.faces (λ y f. both x f y)

    by_faces : (f : X) → sum_over (faces_to d f) (λ x. sum_over (faces_from d f) (λ y. w x f y)) ≡ sum_over d.faces (λ x. sum_over d.faces (λ y. both x f y))
    by_faces f = sum_filter (λ x. d.below x f) d.faces (λ x. sum_over (faces_from d f) (λ y. w x f y))
        ∙ sum_same d.faces (λ x. kept (d.below x f) (sum_over (faces_from d f) (λ y. w x f y))) (λ x. sum_over d.faces (λ y. both x f y))
        (λ x. ap (kept (d.below x f)) (sum_filter (d.below f) d.faces (λ y. w x f y)) ∙ sym (sum_kept (d.below x f) d.faces (λ y. kept (d.below f y) (w x f y))))

module _ {X : Type 0} (d : FaceSeries X) where
  -- (-u)^(rank F), with G' and h*' in turn
  low : X → X → LaurentSeries
  low f y = times_at_product (d.g_dual f y) (power_of_minus_u (d.rank f))

  term : X → X → X → LaurentSeries
  term x f y = times_at_ratio (d.h x) (times_at_ratio (d.g x f) (times_at_product (d.h_dual y) (low f y)))

  pair_terms : (x y : X) (p : ℤ) (q : ℕ) → times_at_ratio (d.h x) (times_at_product (d.h_dual y) (b d x y)) p q ≡ sum_over (faces_between d x y) (λ f. term x f y p q)
  unfolding low term
  pair_terms x y p q = times_same (negsuc 0) (d.h x) (times_at_product (d.h_dual y) (b d x y)) (λ p q. sum_over (faces_between d x y)
      (λ f. times_at_product (d.h_dual y) (times_at_ratio (d.g x f) (low f y)) p q))
      (λ p q. times_sum (pos 1) (d.h_dual y) (faces_between d x y) (λ f. times_at_ratio (d.g x f) (low f y)) p q) p q
      ∙ times_sum (negsuc 0) (d.h x) (faces_between d x y) (λ f. times_at_product (d.h_dual y) (times_at_ratio (d.g x f) (low f y))) p q
      ∙ sum_same (faces_between d x y) (λ f. times_at_ratio (d.h x) (times_at_product (d.h_dual y) (times_at_ratio (d.g x f) (low f y))) p q) (λ f. term x f y p q)
      (λ f. times_same (negsuc 0) (d.h x) (times_at_product (d.h_dual y) (times_at_ratio (d.g x f) (low f y))) (times_at_ratio (d.g x f) (times_at_product (d.h_dual y) (low f y)))
      (λ p q. times_exchange (pos 1) (negsuc 0) (d.h_dual y) (d.g x f) (low f y) p q) p q)

  pub numerator_by_pairs_lem : IsRanked d → (p : ℤ) (q : ℕ)
      → sum_over d.faces (λ x. sum_over (faces_from d x) (λ y. sign (d.rank y - d.rank x) *ℤ times_at_ratio (d.h x) (times_at_product (d.h_dual y) (b d x y)) p q))
      ≡ numerator d p q
  unfolding low term
  numerator_by_pairs_lem ranked p q = sum_same d.faces
      (λ x. sum_over (faces_from d x) (λ y. sign (d.rank y - d.rank x) *ℤ times_at_ratio (d.h x) (times_at_product (d.h_dual y) (b d x y)) p q))
      (λ x. sum_over (faces_from d x) (λ y. sum_over (faces_between d x y) (λ f. sign (d.rank y - d.rank x) *ℤ term x f y p q)))
      (λ x. sum_same (faces_from d x) (λ y. sign (d.rank y - d.rank x) *ℤ times_at_ratio (d.h x) (times_at_product (d.h_dual y) (b d x y)) p q)
      (λ y. sum_over (faces_between d x y) (λ f. sign (d.rank y - d.rank x) *ℤ term x f y p q))
      (λ y. ap (λ (z : ℤ). sign (d.rank y - d.rank x) *ℤ z) (pair_terms x y p q) ∙ sym (sum_scaled (sign (d.rank y - d.rank x)) (faces_between d x y) (λ f. term x f y p q))))
      ∙ regroup d ranked (λ x f y. sign (d.rank y - d.rank x) *ℤ term x f y p q)

  -- the signs of two steps
  signs : IsRanked d → (x f y : X) (z : ℤ) → In x d.faces → In f d.faces → In y d.faces → d.below x f ≡ true → d.below f y ≡ true
      → sign (d.rank f - d.rank x) *ℤ (sign (d.rank y - d.rank f) *ℤ z) ≡ sign (d.rank y - d.rank x) *ℤ z
  signs ranked x f y z ix jf jy h k = sym (*ℤ_assoc (sign (d.rank f - d.rank x)) (sign (d.rank y - d.rank f)) z)
      ∙ ap (λ (s : ℤ). s *ℤ z) (sign_product (d.rank f - d.rank x) (d.rank y - d.rank f)
      ∙ ap sign (gaps (d.rank x) (d.rank f) (d.rank y) (ranked.rises x f (contains_from_in ix) (contains_from_in jf) h) (ranked.rises f y
      (contains_from_in jf) (contains_from_in jy) k)))
    where
      gaps : (a b c : ℕ) → a ≤ b → b ≤ c → (b - a) + (c - b) ≡ c - a
      gaps a b c h k = omega arith

  above : X → LaurentSeries
  above f = times_at_product (s_tilde_dual d f) (power_of_minus_u (d.rank f))

  above_terms : (f : X) (p : ℤ) (q : ℕ) → above f p q ≡ sum_over (faces_from d f) (λ y. sign (d.rank y - d.rank f) *ℤ times_at_product (d.h_dual y) (low f y) p q)
  unfolding low above
  above_terms f p q = times_combination_left (pos 1) (faces_from d f) (λ y. sign (d.rank y - d.rank f)) d.h_dual (d.g_dual f) (power_of_minus_u (d.rank f)) p q

  inner_terms : (x f : X) (p : ℤ) (q : ℕ)
      → times_at_ratio (d.h x) (times_at_ratio (d.g x f) (above f)) p q ≡ sum_over (faces_from d f)
      (λ y. sign (d.rank y - d.rank f) *ℤ term x f y p q)
  unfolding term
  inner_terms x f p q = times_same (negsuc 0) (d.h x) (times_at_ratio (d.g x f) (above f)) (λ p q. sum_over (faces_from d f)
      (λ y. sign (d.rank y - d.rank f) *ℤ times_at_ratio (d.g x f) (times_at_product (d.h_dual y) (low f y)) p q))
      (λ p q. times_same (negsuc 0) (d.g x f) (above f) (λ p q. sum_over (faces_from d f)
      (λ y. sign (d.rank y - d.rank f) *ℤ times_at_product (d.h_dual y) (low f y) p q)) (above_terms f) p q
      ∙ times_combination (negsuc 0) (d.g x f) (faces_from d f) (λ y. sign (d.rank y - d.rank f)) (λ y. times_at_product (d.h_dual y) (low f y)) p q) p q
      ∙ times_combination (negsuc 0) (d.h x) (faces_from d f) (λ y. sign (d.rank y - d.rank f)) (λ y. times_at_ratio (d.g x f) (times_at_product (d.h_dual y) (low f y))) p q

  face_terms : IsRanked d → (f : X) → In f d.faces → (p : ℤ) (q : ℕ) → times_at_ratio (s_tilde d f) (above f) p q
      ≡ sum_over (faces_to d f) (λ x. sum_over (faces_from d f) (λ y. sign (d.rank y - d.rank x) *ℤ term x f y p q))
  face_terms ranked f jf p q = times_combination_left (negsuc 0) (faces_to d f) (λ x. sign (d.rank f - d.rank x)) d.h (λ x. d.g x f) (above f) p q
      ∙ sum_filter_same (λ x. d.below x f) d.faces (λ x. sign (d.rank f - d.rank x) *ℤ times_at_ratio (d.h x) (times_at_ratio (d.g x f) (above f)) p q)
      (λ x. sum_over (faces_from d f) (λ y. sign (d.rank y - d.rank x) *ℤ term x f y p q))
      (λ x ix h. ap (λ (z : ℤ). sign (d.rank f - d.rank x) *ℤ z) (inner_terms x f p q)
      ∙ sym (sum_scaled (sign (d.rank f - d.rank x)) (faces_from d f) (λ y. sign (d.rank y - d.rank f) *ℤ term x f y p q))
      ∙ sum_filter_same (d.below f) d.faces (λ y. sign (d.rank f - d.rank x) *ℤ (sign (d.rank y - d.rank f) *ℤ term x f y p q)) (λ y. sign (d.rank y - d.rank x) *ℤ term x f y p q)
      (λ y jy k. signs ranked x f y (term x f y p q) ix jf jy h k))

  pub numerator_by_faces_lem : IsRanked d → (p : ℤ) (q : ℕ)
      → sum_over d.faces (λ f. times_at_ratio (s_tilde d f) (times_at_product (s_tilde_dual d f) (power_of_minus_u (d.rank f))) p q)
      ≡ numerator d p q
  unfolding low term above
  numerator_by_faces_lem ranked p q = sum_same_in d.faces (λ f. times_at_ratio (s_tilde d f) (above f) p q) (λ f. sum_over (faces_to d f)
      (λ x. sum_over (faces_from d f) (λ y. sign (d.rank y - d.rank x) *ℤ term x f y p q)))
      (λ f jf. face_terms ranked f jf p q)
