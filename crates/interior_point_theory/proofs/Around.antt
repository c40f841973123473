-- Points are around the origin exactly where of the linear functions only 0 is nonnegative on them.
use Rattle.std.proofs.Common.{◌≡◌, ℕ, ◌<◌, ◌≤◌, List, [], ◌∷◌, length, ℤ, pos, negsuc, ◌+ℤ◌, ◌*ℤ◌, neg_ℤ, ◌≤ℤ◌, ◌<ℤ◌, refl, sym, ap, ◌∙◌, arith, ⊎_elim}
use Rattle.std.proofs.lemmas.Bool.{cases_lt}
use Rattle.std.specs.List.{Contains}
use Rattle.lattice_theory.specs.Vector.{entry, dot, scaled, HaveDimension}
use Rattle.lattice_theory.specs.Affine.{Affine, value, value_over}
use Rattle.lattice_theory.specs.Facet.{IsFlat, IsFacet}
use Rattle.lattice_theory.proofs.Integers.{products_out, linear, positive_nonzero, positive_or_not, factor_zero, positive_pos, minus_one-*ℤ}
use Rattle.lattice_theory.proofs.Members.{Each, more, each_from_all, each_weaker, each_in, in_from_contains, contains_from_in}
use Rattle.lattice_theory.proofs.Vectors.{unit, length-scaled, dot-unit, dot_comm, dot-nil, dot-scaled_left, entry-scaled, entry_past, zero_from_entries}
use Rattle.lattice_theory.proofs.Divisibility.{primitive_nonzero}
use Rattle.facet_theory.specs.Sums.{total_over, IsSumOfFacets}
use Rattle.facet_theory.proofs.Generate.{facets_generate_lem}
use Rattle.facet_theory.proofs.Signs.{nonnegative_from, nonnegative_at, nonnegative_sum, nonnegative_same, nonnegative_weaker}
use Rattle.interior_point_theory.specs.Around.{AreAround, OnlyZeroIsNonnegative}
use Rattle.interior_point_theory.specs.Laws.{AroundByFunctions}

-- the value at the origin
origin_value : (f : Affine) → value_over f [] (pos 1) ≡ f.constant
origin_value f = by (dot f.normal []) f.constant (dot-nil f.normal)
  where
    by : (a c : ℤ) → a ≡ pos 0 → a +ℤ pos 1 *ℤ c ≡ c
    by a c e = rw e (simp products_out (omega (arith, linear)))

-- a sum of functions with positive constants isn't negative at the origin, and is 0 there only if it is empty
sum_nonnegative : (fs : List Affine) → Each (λ f. pos 0 <ℤ f.constant) fs → pos 0 ≤ℤ total_over fs [] (pos 1)
sum_nonnegative [] h = omega (arith, linear)
sum_nonnegative (f ∷ fs) (more p ps) = nonnegative_sum (nonnegative_same (sym (origin_value f)) (nonnegative_weaker p)) (sum_nonnegative fs ps)

no_summands : (fs : List Affine) → Each (λ f. pos 0 <ℤ f.constant) fs → total_over fs [] (pos 1) ≡ pos 0 → fs ≡ []
no_summands [] h e = refl
no_summands (f ∷ fs) (more p ps) e = absurd (both f.constant (value_over f [] (pos 1)) (total_over fs [] (pos 1)) (origin_value f) p
    (sum_nonnegative fs ps) e)
  where
    both : (c v t : ℤ) → v ≡ c → pos 0 <ℤ c → pos 0 ≤ℤ t → v +ℤ t ≡ pos 0 → ⊥
    both c v t e p q z = absurd (omega (arith, linear))

-- a linear function that is a sum of functions with positive constants is 0
sum_zero : (n : ℕ) (points : List (List ℤ)) (f : Affine) → f.constant ≡ pos 0 → ((g : Affine) → IsFacet n points g → pos 0 <ℤ g.constant)
    → IsSumOfFacets n points f → (y : List ℤ) → dot f.normal y ≡ pos 0
sum_zero n points f e h s y = over (dot f.normal y) f.constant e
    (factor_zero (pos s.multiplier) (value_over f y (pos 1)) (positive_nonzero (pos s.multiplier) (positive_pos s.multiplier s.positive))
    (s.sums y (pos 1) ∙ ap (λ (fs : List Affine). total_over fs y (pos 1)) (no_summands s.summands positive at_origin)))
  where
    over : (a c : ℤ) → c ≡ pos 0 → a +ℤ pos 1 *ℤ c ≡ pos 0 → a ≡ pos 0
    over a c e k = let k' = simp products_out at k in omega (arith, linear)

    positive : Each (λ g. pos 0 <ℤ g.constant) s.summands
    positive = each_weaker h (each_from_all (IsFacet n points) s.summands s.are_facets)

    times_zero : (m v c : ℤ) → v ≡ c → c ≡ pos 0 → m *ℤ v ≡ pos 0
    times_zero m v c p q = rw (p, q) (simp products_out refl)

    at_origin : total_over s.summands [] (pos 1) ≡ pos 0
    at_origin = sym (s.sums [] (pos 1)) ∙ times_zero (pos s.multiplier) (value_over f [] (pos 1)) f.constant (origin_value f) e

around_zero : (n : ℕ) (points : List (List ℤ)) → 0 < n → HaveDimension n points → AreAround n points → OnlyZeroIsNonnegative n points
around_zero n points some dimensions around f l h i = ⊎_elim
    (λ (b : i < n). sym (dot-unit n i f b) ∙ dot_comm (unit n i) f ∙ sum_zero n points linear_function refl around.constants
    (facets_generate_lem n points (record { coordinates = some; dimension = dimensions; solid = around.solid }) linear_function l
    (nonnegative_from points linear_function (λ y j. no_constant (dot f y) (h y (contains_from_in j))))) (unit n i))
    (λ (b : n ≤ i). entry_past f i (omega arith))
    (cases_lt i n)
  where
    linear_function : Affine
    linear_function = record { normal = f; constant = pos 0 }

    no_constant : (a : ℤ) → pos 0 ≤ℤ a → pos 0 ≤ℤ (a +ℤ pos 0)
    no_constant a h = omega (arith, linear)

module _ (n : ℕ) (points : List (List ℤ)) where
  -- a function that is nonnegative on the points and has no positive constant is constant
  normal_zero : OnlyZeroIsNonnegative n points → (f : Affine) → length f.normal ≡ n → f.constant ≤ℤ pos 0
      → ((y : List ℤ) → Contains points y → pos 0 ≤ℤ value f y) → (k : ℕ) → entry f.normal k ≡ pos 0
  normal_zero only f l c h = only f.normal l (λ y i. less (dot f.normal y) f.constant c (h y i))
    where
      less : (a c : ℤ) → c ≤ℤ pos 0 → pos 0 ≤ℤ (a +ℤ c) → pos 0 ≤ℤ a
      less a c p q = omega (arith, linear)

  abbrev opposite : Affine → Affine
  opposite f = record { normal = scaled (negsuc 0) f.normal; constant = neg_ℤ f.constant }

  zero_around : OnlyZeroIsNonnegative n points → AreAround n points
  zero_around only = record { solid = solid; constants = constants }
    where
      constants : (f : Affine) → IsFacet n points f → pos 0 <ℤ f.constant
      constants f facet = ⊎_elim (λ p. p)
          (λ (c : f.constant ≤ℤ pos 0). absurd (primitive_nonzero f.normal facet.primitive (zero_from_entries f.normal
          (normal_zero only f facet.dimension c (λ y i. nonnegative_at points f facet.nonnegative (in_from_contains points i))))))
          (positive_or_not f.constant)

      turned : (a b c : ℤ) → b ≡ negsuc 0 *ℤ a → a +ℤ c ≡ pos 0 → pos 0 ≤ℤ (b +ℤ neg_ℤ c)
      turned a b c e z = let e' = e ∙ minus_one-*ℤ a in omega (arith, linear)

      from_zero : (a : ℤ) → a ≡ pos 0 → pos 0 ≤ℤ a
      from_zero a e = omega (arith, linear)

      below : (c : ℤ) → pos 0 <ℤ c → neg_ℤ c ≤ℤ pos 0
      below c p = omega (arith, linear)

      minus_zero : (a b : ℤ) → b ≡ negsuc 0 *ℤ a → b ≡ pos 0 → a ≡ pos 0
      minus_zero a b e z = let e' = e ∙ minus_one-*ℤ a in omega (arith, linear)

      vanishing : (flat : IsFlat n points) → (y : List ℤ) → Contains points y → value flat.function y ≡ pos 0
      vanishing flat y i = each_in (each_from_all (λ p. value flat.function p ≡ pos 0) points flat.vanishes) (in_from_contains points i)

      -- the function that vanishes, or its negative, has no positive constant
      solid : IsFlat n points → ⊥
      solid flat =
          let f = flat.function in
          let k = flat.nonconstant.0 in
          ⊎_elim
          (λ (p : pos 0 <ℤ f.constant). flat.nonconstant.1 (minus_zero (entry f.normal k) (entry (opposite f).normal k)
          (entry-scaled (negsuc 0) f.normal k)
          (normal_zero only (opposite f) (length-scaled (negsuc 0) f.normal ∙ flat.dimension) (below f.constant p)
          (λ y i. turned (dot f.normal y) (dot (opposite f).normal y) f.constant (dot-scaled_left (negsuc 0) f.normal y) (vanishing flat y i)) k)))
          (λ (p : f.constant ≤ℤ pos 0). flat.nonconstant.1
          (normal_zero only f flat.dimension p (λ y i. from_zero (value f y) (vanishing flat y i)) k))
          (positive_or_not f.constant)

pub around_by_functions_lem : AroundByFunctions
around_by_functions_lem n points some dimensions = (around_zero n points some dimensions, zero_around n points)
