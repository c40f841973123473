-- The combination of two facets at a point: its values, where it is 0, and that there is one.
use Rattle.std.proofs.Common.{◌≡◌, ℕ, ◌<◌, List, length, ℤ, pos, ◌+ℤ◌, ◌*ℤ◌, neg_ℤ, ◌≤ℤ◌, ◌<ℤ◌, sym, ap, ◌∙◌, All, arith}
use Rattle.lattice_theory.specs.Vector.{entry, dot}
use Rattle.lattice_theory.specs.Affine.{Affine, value}
use Rattle.lattice_theory.specs.Combinations.{IsCombinationAt}
use Rattle.lattice_theory.specs.Facet.{IsFacet}
use Rattle.lattice_theory.proofs.Integers.{products_out, linear, positive_is, positive_pos, positive_nonzero, factor_zero, nonnegative_factor, product_positive, product_nonnegative, *ℤ-zero, zero_terms}
use Rattle.lattice_theory.proofs.Members.{In, each_from_all}
use Rattle.lattice_theory.proofs.Vectors.{dot-scaled_left, entry-scaled, length-scaled}
use Rattle.lattice_theory.proofs.Divisibility.{HasPrimitivePart, primitive_part}
use Rattle.lattice_theory.proofs.Functions.{mixed, length-mixed, entry-mixed, constant-mixed, value-mixed}
use Rattle.lattice_theory.proofs.Combinations.{combination_value}
use Rattle.facet_theory.specs.Solid.{AreSolid}
use Rattle.facet_theory.proofs.Different.{facet_positive}
use Rattle.facet_theory.proofs.Signs.{nonnegative_same, nonnegative_weaker, nonnegative_sum, nonnegative_at, terms_zero}
use Rattle.facet_theory.proofs.Values.{dot-zero}
use Rattle.ridge_theory.specs.Laws.{OppositeFacetsCombine}

-- numbers: w c = l a + r b with positive w, l and r
module _ (w l r : ℕ) (a b c : ℤ) (same : pos w *ℤ c ≡ pos l *ℤ a +ℤ pos r *ℤ b) (positive : (0 < w) × (0 < l) × (0 < r)) where
  whole_zero : a ≡ pos 0 → b ≡ pos 0 → c ≡ pos 0
  whole_zero e e' = factor_zero (pos w) c (positive_nonzero (pos w) (positive_pos w positive.0))
      (same ∙ zero_terms (pos l) (pos r) a b e e')

  module _ (first : pos 0 ≤ℤ a) (second : pos 0 ≤ℤ b) where
    left_part : pos 0 ≤ℤ (pos l *ℤ a)
    left_part = product_nonnegative (pos l) a (nonnegative_weaker (positive_pos l positive.1)) first

    right_part : pos 0 ≤ℤ (pos r *ℤ b)
    right_part = product_nonnegative (pos r) b (nonnegative_weaker (positive_pos r positive.2)) second

    whole_nonnegative : pos 0 ≤ℤ c
    whole_nonnegative = nonnegative_factor (pos w) c (positive_pos w positive.0)
        (nonnegative_same (sym same) (nonnegative_sum left_part right_part))

    parts_zero : c ≡ pos 0 → (a ≡ pos 0) × (b ≡ pos 0)
    parts_zero e = by (terms_zero (pos l *ℤ a) (pos r *ℤ b) left_part right_part (sym same ∙ ap (λ (z : ℤ). pos w *ℤ z) e
        ∙ *ℤ-zero (pos w)))
      where
        by : (pos l *ℤ a ≡ pos 0) × (pos r *ℤ b ≡ pos 0) → (a ≡ pos 0) × (b ≡ pos 0)
        by (z, z') = (
          factor_zero (pos l) a (positive_nonzero (pos l) (positive_pos l positive.1)) z,
          factor_zero (pos r) b (positive_nonzero (pos r) (positive_pos r positive.2)) z',
        )

-- the combination h of the facets f and g at p
module _ (n : ℕ) (points : List (List ℤ)) (p : List ℤ) (long : length p ≡ n) (f g h : Affine) (left : IsFacet n points f)
    (right : IsFacet n points g)
    (c : IsCombinationAt f g p h) where
  -- its values
  pub pair_value : (x : List ℤ) → pos c.combination.whole *ℤ value h x ≡ pos c.combination.left *ℤ value f x
      +ℤ pos c.combination.right *ℤ value g x
  pair_value x = combination_value (pos c.combination.whole) (pos c.combination.left) (pos c.combination.right) f g h n left.dimension
      right.dimension
      (c.dimension ∙ long) c.combination.normals c.combination.constants x

  -- it is 0 where both are
  pub pair_zero : (x : List ℤ) → value f x ≡ pos 0 → value g x ≡ pos 0 → value h x ≡ pos 0
  pair_zero x = whole_zero c.combination.whole c.combination.left c.combination.right (value f x) (value g x) (value h x)
      (pair_value x) c.combination.positive

  -- it isn't negative at the points
  pub pair_nonnegative : (x : List ℤ) → In x points → pos 0 ≤ℤ value h x
  pair_nonnegative x i = whole_nonnegative c.combination.whole c.combination.left c.combination.right (value f x) (value g x) (value h x)
      (pair_value x) c.combination.positive (nonnegative_at points f left.nonnegative i) (nonnegative_at points g right.nonnegative i)

  -- and 0 at one of them only where both are
  pub pair_parts : (x : List ℤ) → In x points → value h x ≡ pos 0 → (value f x ≡ pos 0) × (value g x ≡ pos 0)
  pair_parts x i = parts_zero c.combination.whole c.combination.left c.combination.right (value f x) (value g x) (value h x)
      (pair_value x) c.combination.positive (nonnegative_at points f left.nonnegative i) (nonnegative_at points g right.nonnegative i)

-- two functions of which positive multiples cancel out at p have a combination there, where at some point the one is positive and the other
-- isn't negative
module _ (n : ℕ) (p : List ℤ) (long : length p ≡ n) (f g : Affine) (left : length f.normal ≡ n) (right : length g.normal ≡ n) (a b : ℤ)
    (first : pos 0 <ℤ a) (second : pos 0 <ℤ b) (cancels : a *ℤ value f p +ℤ b *ℤ value g p ≡ pos 0) (x : List ℤ)
    (before : pos 0 <ℤ value f x) (behind : pos 0 ≤ℤ value g x) where
  -- a f + b g
  abbrev cross : Affine
  cross = mixed a f b g

  cross_at : value cross p ≡ pos 0
  cross_at = value-mixed a f b g p ∙ cancels

  -- it isn't constant, since it is 0 at p and positive at x
  cross_nonconstant : All (λ c. c ≡ pos 0) cross.normal → ⊥
  cross_nonconstant zeros = clash (value f x) (value g x) a b (product_positive a (value f x) first before)
      (product_nonnegative b (value g x) (nonnegative_weaker second) behind)
      (sym (value-mixed a f b g x) ∙ same (dot cross.normal p) (dot cross.normal x) cross.constant (flat p) (flat x) cross_at)
    where
      flat : (y : List ℤ) → dot cross.normal y ≡ pos 0
      flat y = dot-zero cross.normal y (each_from_all (λ c. c ≡ pos 0) cross.normal zeros)

      same : (a b c : ℤ) → a ≡ pos 0 → b ≡ pos 0 → a +ℤ c ≡ pos 0 → b +ℤ c ≡ pos 0
      same a b c e e' e'' = omega (arith, linear)

      clash : (a b c d : ℤ) → pos 0 <ℤ (c *ℤ a) → pos 0 ≤ℤ (d *ℤ b) → c *ℤ a +ℤ d *ℤ b ≡ pos 0 → ⊥
      clash a b c d h k e = absurd (omega (arith, linear))

  -- its primitive part is the combination's normal
  pub combination_exists : (h : Affine) × IsCombinationAt f g p h
  combination_exists = by (primitive_part cross.normal cross_nonconstant) (positive_is a first) (positive_is b second)
    where
      constants : (d k c x y z t : ℤ) → t ≡ d *ℤ k → t +ℤ c ≡ pos 0 → c ≡ x *ℤ y +ℤ z → d *ℤ neg_ℤ k ≡ x *ℤ y +ℤ z
      constants d k c x y z t e e' e'' = simp products_out (omega (arith, linear))

      itself : (a : ℤ) → a +ℤ neg_ℤ a ≡ pos 0
      itself a = omega (arith, linear)

      by : HasPrimitivePart cross.normal → (l : ℕ) × (0 < l) × (a ≡ pos l) → (r : ℕ) × (0 < r) × (b ≡ pos r)
          → (h : Affine) × IsCombinationAt f g p h
      by part (l, l_positive, l_is) (r, r_positive, r_is) = (
        record { normal = part.part; constant = neg_ℤ (dot part.part p) },
        record {
          dimension = sym (length-scaled (pos part.factor) part.part) ∙ ap length part.same ∙ length-mixed n a f b g left right ∙ sym long;
          primitive = part.primitive;
          vanishes = itself (dot part.part p);
          combination = record {
            whole = part.factor;
            left = l;
            right = r;
            positive = (part.positive, l_positive, r_positive);
            normals = normals;
            constants = constant;
          };
        },
      )
        where
          entries : (i : ℕ) → pos part.factor *ℤ entry part.part i ≡ a *ℤ entry f.normal i +ℤ b *ℤ entry g.normal i
          entries i = sym (entry-scaled (pos part.factor) part.part i) ∙ ap (λ (v : List ℤ). entry v i) part.same ∙ entry-mixed a f b g i

          normals : (i : ℕ) → pos part.factor *ℤ entry part.part i ≡ pos l *ℤ entry f.normal i +ℤ pos r *ℤ entry g.normal i
          normals i = entries i ∙ ap (λ (z : ℤ). z *ℤ entry f.normal i +ℤ b *ℤ entry g.normal i) l_is
              ∙ ap (λ (z : ℤ). pos l *ℤ entry f.normal i +ℤ z *ℤ entry g.normal i) r_is

          at_p : dot cross.normal p ≡ pos part.factor *ℤ dot part.part p
          at_p = ap (λ (v : List ℤ). dot v p) (sym part.same) ∙ dot-scaled_left (pos part.factor) part.part p

          whole : cross.constant ≡ a *ℤ f.constant +ℤ b *ℤ g.constant
          whole = constant-mixed a f b g

          constant : pos part.factor *ℤ neg_ℤ (dot part.part p) ≡ pos l *ℤ f.constant +ℤ pos r *ℤ g.constant
          constant = constants (pos part.factor) (dot part.part p) cross.constant a f.constant (b *ℤ g.constant) (dot cross.normal p)
              at_p cross_at whole ∙ ap (λ (z : ℤ). z *ℤ f.constant +ℤ b *ℤ g.constant) l_is
              ∙ ap (λ (z : ℤ). pos l *ℤ f.constant +ℤ z *ℤ g.constant) r_is

-- facets of opposite signs do: -g(p) f and f(p) g cancel out at p, and at some point f is positive
pub pair_exists : (n : ℕ) (points : List (List ℤ)) (p : List ℤ) → AreSolid n points → length p ≡ n → (f g : Affine) → IsFacet n points f
    → IsFacet n points g → pos 0 <ℤ value f p → value g p <ℤ pos 0 → (h : Affine) × IsCombinationAt f g p h
pair_exists n points p solid long f g left right before behind = by (facet_positive n points solid f left)
  where
    cancels : (a b : ℤ) → neg_ℤ b *ℤ a +ℤ a *ℤ b ≡ pos 0
    cancels a b = simp products_out (omega (arith, linear))

    by : (x : List ℤ) × In x points × (pos 0 <ℤ value f x) → (h : Affine) × IsCombinationAt f g p h
    by (x, i, q) = combination_exists n p long f g left.dimension right.dimension (neg_ℤ (value g p)) (value f p)
        (omega (arith, linear)) before (cancels (value f p) (value g p)) x q (nonnegative_at points g right.nonnegative i)

-- the law on the combination
pub opposite_facets_combine_lem : OppositeFacetsCombine
opposite_facets_combine_lem n points p solid long f g left right before behind =
    pair_exists n points p solid long f g left right before behind
