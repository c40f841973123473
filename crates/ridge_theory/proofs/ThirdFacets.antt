-- Two facets meet in a ridge exactly where no third one vanishes with both.
use Rattle.std.proofs.Common.{◌≡◌, ℕ, List, [], ◌∷◌, length, ℤ, pos, ◌+ℤ◌, ◌-ℤ◌, ◌*ℤ◌, neg_ℤ, ◌≤ℤ◌, ◌<ℤ◌, ◌⊎◌, inl, inr, refl, sym, ap, ◌∙◌, arith}
use Rattle.std.specs.List.{Contains}
use Rattle.lattice_theory.specs.Affine.{Affine, value, value_over}
use Rattle.lattice_theory.specs.Combinations.{IsRationalCombination}
use Rattle.lattice_theory.specs.Facet.{IsFacet}
use Rattle.lattice_theory.proofs.Integers.{products_out, linear, positive_or_not, positive_or_negative, positive_nonzero, positive_pos, product_nonnegative, factor_zero, *ℤ-zero}
use Rattle.lattice_theory.proofs.Members.{In, Each, more, each_from_in, in_from_contains, contains_from_in}
use Rattle.lattice_theory.proofs.Functions.{mixed, length-mixed, value-mixed, value_over-mixed}
use Rattle.lattice_theory.proofs.Combinations.{combination_value, combination_entry, combination_constant}
use Rattle.facet_theory.specs.Sums.{total_over, IsSumOfFacets}
use Rattle.facet_theory.specs.Solid.{AreSolid}
use Rattle.facet_theory.proofs.Different.{facets_differ_lem}
use Rattle.facet_theory.proofs.Generate.{facets_generate_lem}
use Rattle.facet_theory.proofs.LeastVertex.{above_along}
use Rattle.facet_theory.proofs.Signs.{nonnegative_same, nonnegative_weaker, nonnegative_sum, nonnegative_at, nonnegative_from, terms_zero}
use Rattle.facet_theory.proofs.Smallest.{Spread, find_spread}
use Rattle.ridge_theory.specs.Ridges.{VanishesWithBoth}
use Rattle.ridge_theory.specs.Laws.{RidgesByFacets}
use Rattle.ridge_theory.proofs.Summands.{summands_vanish, summand_facet}

-- q k = a f + b g with a positive q: which of the numbers k and f are 0
only_left : (q a b k f g : ℤ) → q *ℤ k ≡ a *ℤ f +ℤ b *ℤ g → pos 0 <ℤ q → a ≤ℤ pos 0 → pos 0 ≤ℤ k → pos 0 ≤ℤ f → g ≡ pos 0 → k ≡ pos 0
only_left q a b k f g e positive h k_least f_least z = factor_zero q k (positive_nonzero q positive)
    (both (q *ℤ k) (a *ℤ f) (b *ℤ g) e (product_nonnegative q k (nonnegative_weaker positive) k_least) below
    (ap (λ (y : ℤ). b *ℤ y) z ∙ *ℤ-zero b))
  where
    minus : pos 0 ≤ℤ neg_ℤ a
    minus = omega (arith, linear)

    below : (a *ℤ f) ≤ℤ pos 0
    below = let s = simp products_out at (product_nonnegative (neg_ℤ a) f minus f_least) in let c : f *ℤ a ≡ a *ℤ f = simp products_out in
        omega (arith, linear)

    both : (x y z : ℤ) → x ≡ y +ℤ z → pos 0 ≤ℤ x → y ≤ℤ pos 0 → z ≡ pos 0 → x ≡ pos 0
    both x y z e h k l = omega (arith, linear)

-- a third function is one of the two
module _ (n : ℕ) (points : List (List ℤ)) (solid : AreSolid n points) (f g k : Affine) (left : IsFacet n points f)
    (right : IsFacet n points g)
    (third : IsFacet n points k) where
  first_or_second : (q a b : ℤ) → pos 0 <ℤ q → ((x : List ℤ) → q *ℤ value k x ≡ a *ℤ value f x +ℤ b *ℤ value g x) → (k ≡ f) ⊎ (k ≡ g)
  first_or_second q a b positive values = by (positive_or_not a) (positive_or_not b)
    where
      at : (h : Affine) → IsFacet n points h → (x : List ℤ) → Contains points x → pos 0 ≤ℤ value h x
      at h facet x c = nonnegative_at points h facet.nonnegative (in_from_contains points c)

      turned : (x y z : ℤ) → x ≡ y +ℤ z → x ≡ z +ℤ y
      turned x y z e = omega (arith, linear)

      parts : (a f b g : ℤ) → pos 0 <ℤ a → pos 0 <ℤ b → pos 0 ≤ℤ f → pos 0 ≤ℤ g → a *ℤ f +ℤ b *ℤ g ≡ pos 0 → f ≡ pos 0
      parts a f b g h k l m e = factor_zero a f (positive_nonzero a h)
          (terms_zero (a *ℤ f) (b *ℤ g) (product_nonnegative a f (nonnegative_weaker h) l)
          (product_nonnegative b g (nonnegative_weaker k) m) e).0

      by : (pos 0 <ℤ a) ⊎ (a ≤ℤ pos 0) → (pos 0 <ℤ b) ⊎ (b ≤ℤ pos 0) → (k ≡ f) ⊎ (k ≡ g)
      by (inr h) r = inr (sym (facets_differ_lem n points solid g k right third (λ x c z.
          only_left q a b (value k x) (value f x) (value g x) (values x) positive h (at k third x c) (at f left x c) z)))
      by (inl h) (inr r) = inl (sym (facets_differ_lem n points solid f k left third (λ x c z.
          only_left q b a (value k x) (value g x) (value f x) (turned (q *ℤ value k x) (a *ℤ value f x) (b *ℤ value g x) (values x))
          positive r
          (at k third x c) (at g right x c) z)))
      by (inl h) (inl r) = inl (facets_differ_lem n points solid k f third left (λ x c z.
          parts a (value f x) b (value g x) h r (at f left x c) (at g right x c) (sym (values x) ∙ ap (λ (y : ℤ). q *ℤ y) z ∙ *ℤ-zero q)))

  -- where it is a combination of both
  third_in_ridge : IsRationalCombination f g k → (k ≡ f) ⊎ (k ≡ g)
  third_in_ridge c = by (positive_or_negative c.whole c.nonzero)
    where
      values : (x : List ℤ) → c.whole *ℤ value k x ≡ c.left *ℤ value f x +ℤ c.right *ℤ value g x
      values x = combination_value c.whole c.left c.right f g k n left.dimension right.dimension third.dimension c.normals c.constants x

      negated : (q a b x y z : ℤ) → q *ℤ x ≡ a *ℤ y +ℤ b *ℤ z → neg_ℤ q *ℤ x ≡ neg_ℤ a *ℤ y +ℤ neg_ℤ b *ℤ z
      negated q a b x y z e = simp products_out (omega (arith, linear))

      by : (pos 0 <ℤ c.whole) ⊎ (pos 0 <ℤ neg_ℤ c.whole) → (k ≡ f) ⊎ (k ≡ g)
      by (inl h) = first_or_second c.whole c.left c.right h values
      by (inr h) = first_or_second (neg_ℤ c.whole) (neg_ℤ c.left) (neg_ℤ c.right) h
          (λ x. negated c.whole c.left c.right (value k x) (value f x) (value g x) (values x))

-- a sum of copies of f and g
record IsTotalOf (f g : Affine) (fs : List Affine) : Type 0 where
  left : ℤ
  right : ℤ
  sums : (x : List ℤ) (d : ℤ) → total_over fs x d ≡ left *ℤ value_over f x d +ℤ right *ℤ value_over g x d

total_of : (f g : Affine) (fs : List Affine) → Each (λ k. (k ≡ f) ⊎ (k ≡ g)) fs → IsTotalOf f g fs
total_of f g [] h = record { left = pos 0; right = pos 0; sums = λ x d. simp products_out }
total_of f g (k ∷ fs) (more h hs) = by h (total_of f g fs hs)
  where
    one_left : (a b y z t v : ℤ) → t ≡ a *ℤ y +ℤ b *ℤ z → v ≡ y → v +ℤ t ≡ (a +ℤ pos 1) *ℤ y +ℤ b *ℤ z
    one_left a b y z t v e e' = rw (e, e') (simp products_out (omega (arith, linear)))

    one_right : (a b y z t v : ℤ) → t ≡ a *ℤ y +ℤ b *ℤ z → v ≡ z → v +ℤ t ≡ a *ℤ y +ℤ (b +ℤ pos 1) *ℤ z
    one_right a b y z t v e e' = rw (e, e') (simp products_out (omega (arith, linear)))

    by : (k ≡ f) ⊎ (k ≡ g) → IsTotalOf f g fs → IsTotalOf f g (k ∷ fs)
    by (inl e) t = record {
      left = t.left +ℤ pos 1;
      right = t.right;
      sums = λ x d. one_left t.left t.right (value_over f x d) (value_over g x d) (total_over fs x d) (value_over k x d) (t.sums x d)
          (ap (λ (h : Affine). value_over h x d) e);
    }
    by (inr e) t = record {
      left = t.left;
      right = t.right +ℤ pos 1;
      sums = λ x d. one_right t.left t.right (value_over f x d) (value_over g x d) (total_over fs x d) (value_over k x d) (t.sums x d)
          (ap (λ (h : Affine). value_over h x d) e);
    }

-- where there is no third one, each function that vanishes with both is a combination: with large multiples of both it isn't negative
module _ (n : ℕ) (points : List (List ℤ)) (solid : AreSolid n points) (f g : Affine) (left : IsFacet n points f)
    (right : IsFacet n points g)
    (only : (k : Affine) → IsFacet n points k → VanishesWithBoth points f g k → (k ≡ f) ⊎ (k ≡ g)) (u : Affine) (long : length u.normal ≡ n)
    (with_both : VanishesWithBoth points f g u) where
  -- N (f + g) + u
  abbrev both : Affine
  both = mixed (pos 1) f (pos 1) g

  abbrev raised : ℕ → Affine
  raised m = mixed (pos m) both (pos 1) u

  plain : (a b : ℤ) → pos 1 *ℤ a +ℤ pos 1 *ℤ b ≡ a +ℤ b
  plain a b = simp products_out

  both_value : (x : List ℤ) → value both x ≡ value f x +ℤ value g x
  both_value x = value-mixed (pos 1) f (pos 1) g x ∙ plain (value f x) (value g x)

  both_nonnegative : (x : List ℤ) → In x points → pos 0 ≤ℤ value both x
  both_nonnegative x i = nonnegative_same (sym (both_value x))
      (nonnegative_sum (nonnegative_at points f left.nonnegative i) (nonnegative_at points g right.nonnegative i))

  both_zero : (x : List ℤ) → In x points → value both x ≡ pos 0 → value u x ≡ pos 0
  both_zero x i z = by (terms_zero (value f x) (value g x) (nonnegative_at points f left.nonnegative i)
      (nonnegative_at points g right.nonnegative i)
      (sym (both_value x) ∙ z))
    where
      by : (value f x ≡ pos 0) × (value g x ≡ pos 0) → value u x ≡ pos 0
      by (e, e') = with_both x (contains_from_in i) e e'

  raised_nonnegative : (b : Spread points (value u)) (x : List ℤ) → In x points → pos 0 ≤ℤ value (raised b.number) x
  raised_nonnegative b x i = nonnegative_same (sym (value-mixed (pos b.number) both (pos 1) u x))
      (above_along (pos b.number) (pos 1) (value both x) (value u x) (inl refl) (both_nonnegative x i) (both_zero x i) (b.below x i)
      (b.above x i))

  raised_zero : (m : ℕ) (x : List ℤ) → Contains points x → value f x ≡ pos 0 → value g x ≡ pos 0 → value (raised m) x ≡ pos 0
  raised_zero m x c e e' = value-mixed (pos m) both (pos 1) u x
      ∙ zero (pos m) (value both x) (value u x) (both_value x ∙ sum (value f x) (value g x) e e') (with_both x c e e')
    where
      zero : (m a b : ℤ) → a ≡ pos 0 → b ≡ pos 0 → m *ℤ a +ℤ pos 1 *ℤ b ≡ pos 0
      zero m a b e e' = rw (e, e') (simp products_out)

      sum : (a b : ℤ) → a ≡ pos 0 → b ≡ pos 0 → a +ℤ b ≡ pos 0
      sum a b e e' = omega (arith, linear)

  ridge_combination : IsRationalCombination f g u
  ridge_combination = by (find_spread (value u) points)
    where
      by : Spread points (value u) → IsRationalCombination f g u
      by b = at (facets_generate_lem n points solid (raised b.number)
          (length-mixed n (pos b.number) both (pos 1) u (length-mixed n (pos 1) f (pos 1) g left.dimension right.dimension) long)
          (nonnegative_from points (raised b.number) (raised_nonnegative b)))
        where
          at : IsSumOfFacets n points (raised b.number) → IsRationalCombination f g u
          at s = of (total_of f g s.summands (each_from_in s.summands one_of))
            where
              facet : (k : Affine) → In k s.summands → IsFacet n points k
              facet k i = summand_facet n points (raised b.number) s k i

              one_of : (k : Affine) → In k s.summands → (k ≡ f) ⊎ (k ≡ g)
              one_of k i = only k (facet k i) (λ x c e e'. summands_vanish n points (raised b.number) s x
                  (λ h nonnegative. nonnegative_at points h nonnegative.nonnegative (in_from_contains points c))
                  (raised_zero b.number x c e e') k i)

              lift : (m k a c x y z t w v : ℤ) → w ≡ k *ℤ t +ℤ pos 1 *ℤ v → t ≡ pos 1 *ℤ y +ℤ pos 1 *ℤ z → m *ℤ w ≡ x → x ≡ a *ℤ y +ℤ c *ℤ z
                  → m *ℤ v ≡ (a -ℤ m *ℤ k) *ℤ y +ℤ (c -ℤ m *ℤ k) *ℤ z
              lift m k a c x y z t w v e e' e'' e''' =
                  let h = simp products_out at (rw (e, e') at e'') in
                  simp products_out (omega (arith, linear))

              of : IsTotalOf f g s.summands → IsRationalCombination f g u
              of t = record {
                whole = pos s.multiplier;
                left = t.left -ℤ pos s.multiplier *ℤ pos b.number;
                right = t.right -ℤ pos s.multiplier *ℤ pos b.number;
                nonzero = positive_nonzero (pos s.multiplier) (positive_pos s.multiplier s.positive);
                normals = combination_entry (pos s.multiplier) (t.left -ℤ pos s.multiplier *ℤ pos b.number)
                    (t.right -ℤ pos s.multiplier *ℤ pos b.number) f g u
                    values n left.dimension right.dimension long;
                constants = combination_constant (pos s.multiplier) (t.left -ℤ pos s.multiplier *ℤ pos b.number)
                    (t.right -ℤ pos s.multiplier *ℤ pos b.number) f g u values;
              }
                where
                  values : (x : List ℤ) (d : ℤ) → pos s.multiplier *ℤ value_over u x d
                      ≡ (t.left -ℤ pos s.multiplier *ℤ pos b.number) *ℤ value_over f x d
                      +ℤ (t.right -ℤ pos s.multiplier *ℤ pos b.number) *ℤ value_over g x d
                  values x d = lift (pos s.multiplier) (pos b.number) t.left t.right (total_over s.summands x d) (value_over f x d)
                      (value_over g x d)
                      (value_over both x d) (value_over (raised b.number) x d) (value_over u x d)
                      (value_over-mixed (pos b.number) both (pos 1) u x d)
                      (value_over-mixed (pos 1) f (pos 1) g x d) (s.sums x d) (t.sums x d)

-- the law on ridges
pub ridges_by_facets_lem : RidgesByFacets
ridges_by_facets_lem n points solid f g left right = (
  (λ ridge k third with_both. third_in_ridge n points solid f g k left right third (ridge k third.dimension with_both)),
  (λ only u long with_both. ridge_combination n points solid f g left right only u long with_both),
)
