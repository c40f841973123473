-- One more point: facets that stay, the combinations that are new facets, and that there are no others.
use Rattle.std.proofs.Common.{◌≡◌, ◌≢◌, ℕ, List, length, ℤ, pos, ◌+ℤ◌, ◌*ℤ◌, neg_ℤ, ◌≤ℤ◌, ◌<ℤ◌, ◌⊎◌, inl, inr, refl, sym, ap, ◌∙◌, subst, arith, ⊎_elim}
use Rattle.std.specs.List.{Contains}
use Rattle.lattice_theory.specs.Vector.{entry}
use Rattle.lattice_theory.specs.Affine.{Affine, value, IsMultiple}
use Rattle.lattice_theory.specs.Combinations.{IsRationalCombination, IsCombinationAt}
use Rattle.lattice_theory.specs.Facet.{IsFacet}
use Rattle.lattice_theory.proofs.Integers.{products_out, linear, positive_or_not, positive_nonzero, positive_pos, product_nonzero, cancel_left, *ℤ-zero}
use Rattle.lattice_theory.proofs.Members.{In, each_from_all, all_from_each, each_from_in, each_in, in_from_contains, contains_from_in}
use Rattle.lattice_theory.proofs.Vectors.{entry-scaled, length-scaled, same_from_entries}
use Rattle.lattice_theory.proofs.Functions.{mixed, length-mixed, entry-mixed, constant-mixed, value-mixed}
use Rattle.lattice_theory.proofs.Combinations.{combination_value}
use Rattle.facet_theory.specs.Sums.{total_over, IsSumOfFacets}
use Rattle.facet_theory.specs.Solid.{AreSolid}
use Rattle.facet_theory.proofs.Different.{same_from_multiple}
use Rattle.facet_theory.proofs.Generate.{facets_generate_lem}
use Rattle.facet_theory.proofs.Lifted.{value_at_one}
use Rattle.facet_theory.proofs.Signs.{nonnegative_at, nonnegative_from}
use Rattle.ridge_theory.specs.Ridges.{IsRidge, HasOneMore, IsNewFacet}
use Rattle.ridge_theory.specs.Laws.{MoreAreSolid, FacetsStay, RidgesGiveFacets, FacetsOfOneMore}
use Rattle.ridge_theory.proofs.Summands.{summand_facet, summands_vanish, some_summand, zero_or_opposite, HasOpposite, same_as_multiple}
use Rattle.ridge_theory.proofs.Pairs.{pair_value, pair_zero, pair_nonnegative, pair_parts, pair_exists}

-- the law on points that aren't flat
pub more_are_solid_lem : MoreAreSolid
more_are_solid_lem n points more solid dims among = record {
  coordinates = solid.coordinates;
  dimension = dims;
  solid = λ flat.
      solid.solid (record {
        function = flat.function;
        dimension = flat.dimension;
        nonconstant = flat.nonconstant;
        vanishes = all_from_each (each_from_in points
            (λ q i. each_in (each_from_all (λ x. value flat.function x ≡ pos 0) more flat.vanishes)
            (in_from_contains more (among q (contains_from_in i)))));
      });
}

-- the points and one more
module _ (n : ℕ) (points : List (List ℤ)) (p : List ℤ) (more : List (List ℤ)) (solid : AreSolid n points)
    (one_more : HasOneMore points p more) where
  old_among : (x : List ℤ) → Contains points x → Contains more x
  old_among x c = (one_more x).1 (inl c)

  -- what holds at the points and at the new one holds at all
  at_all : (P : List ℤ → Type 0) → ((x : List ℤ) → In x points → P x) → P p → (x : List ℤ) → Contains more x → P x
  at_all P h at_p x c = by ((one_more x).0 c)
    where
      by : Contains points x ⊎ (x ≡ p) → P x
      by (inl k) = h x (in_from_contains points k)
      by (inr e) = subst P (sym e) at_p

  -- so they have its dimension
  all_solid : length p ≡ n → AreSolid n more
  all_solid long = more_are_solid_lem n points more solid
      (all_from_each (each_from_in more
      (λ x i. at_all (λ y. length y ≡ n) (λ y j. each_in (each_from_all (λ q. length q ≡ n) points solid.dimension) j) long
      x (contains_from_in i)))) old_among

  -- the law on facets that stay
  pub stays : (f : Affine) → IsFacet n points f → pos 0 ≤ℤ value f p → IsFacet n more f
  stays f facet h = record {
    dimension = facet.dimension;
    primitive = facet.primitive;
    nonnegative = nonnegative_from more f
        (λ x i. at_all (λ y. pos 0 ≤ℤ value f y) (λ y j. nonnegative_at points f facet.nonnegative j) h x (contains_from_in i));
    determined = λ g l along. facet.determined g l (λ x c z. along x (old_among x c) z);
  }

  -- two facets and their combination at the new point
  module _ (long : length p ≡ n) (f g h : Affine) (left : IsFacet n points f) (right : IsFacet n points g) (before : pos 0 <ℤ value f p)
      (c : IsCombinationAt f g p h) where
    -- where they meet in a ridge, a function that vanishes with the combination is a multiple of it
    ridge_multiple : (u : Affine) → length u.normal ≡ n → IsRationalCombination f g u → value u p ≡ pos 0 → IsMultiple u h
    ridge_multiple u l k z = record {
      left = l' *ℤ k.whole;
      right = k.left *ℤ w;
      nonzero = product_nonzero l' k.whole (positive_nonzero l' (positive_pos c.combination.left c.combination.positive.1)) k.nonzero;
      normals = same_from_entries _ _
          (length-scaled (l' *ℤ k.whole) u.normal ∙ l ∙ sym (c.dimension ∙ long) ∙ sym (length-scaled (k.left *ℤ w) h.normal))
          (λ i. entry-scaled (l' *ℤ k.whole) u.normal i
          ∙ along k.whole k.left k.right w l' r' (entry u.normal i) (entry f.normal i) (entry g.normal i) (entry h.normal i) (k.normals i)
          (c.combination.normals i) balanced
          ∙ sym (entry-scaled (k.left *ℤ w) h.normal i));
      constants = along k.whole k.left k.right w l' r' u.constant f.constant g.constant h.constant k.constants
          c.combination.constants balanced;
    }
      where
        w : ℤ
        w = pos c.combination.whole

        l' : ℤ
        l' = pos c.combination.left

        r' : ℤ
        r' = pos c.combination.right

        along : (q a b w l r u f g h : ℤ) → q *ℤ u ≡ a *ℤ f +ℤ b *ℤ g → w *ℤ h ≡ l *ℤ f +ℤ r *ℤ g → a *ℤ r ≡ b *ℤ l
            → (l *ℤ q) *ℤ u ≡ (a *ℤ w) *ℤ h
        along q a b w l r u f g h e e' e'' =
            let s = simp products_out at (ap (λ (z : ℤ). l *ℤ z) e) in
            let s' = simp products_out at (ap (λ (z : ℤ). a *ℤ z) e') in
            let s'' = simp products_out at (ap (λ (z : ℤ). z *ℤ g) e'') in
            simp products_out (omega (arith, linear))

        cross : (a b l r x y : ℤ) → x ≢ pos 0 → a *ℤ x +ℤ b *ℤ y ≡ pos 0 → l *ℤ x +ℤ r *ℤ y ≡ pos 0 → a *ℤ r ≡ b *ℤ l
        cross a b l r x y n' e e' = cancel_left x (a *ℤ r) (b *ℤ l) n'
            (let s = simp products_out at (ap (λ (z : ℤ). r *ℤ z) e) in
            let s' = simp products_out at (ap (λ (z : ℤ). b *ℤ z) e') in
            simp products_out (omega (arith, linear)))

        at_p : k.left *ℤ value f p +ℤ k.right *ℤ value g p ≡ pos 0
        at_p = sym (combination_value k.whole k.left k.right f g u n left.dimension right.dimension l k.normals k.constants p)
            ∙ ap (λ (y : ℤ). k.whole *ℤ y) z ∙ *ℤ-zero k.whole

        pair_at_p : l' *ℤ value f p +ℤ r' *ℤ value g p ≡ pos 0
        pair_at_p = sym (pair_value n points p long f g h left right c p) ∙ ap (λ (y : ℤ). w *ℤ y) c.vanishes ∙ *ℤ-zero w

        balanced : k.left *ℤ r' ≡ k.right *ℤ l'
        balanced = cross k.left k.right l' r' (value f p) (value g p) (positive_nonzero (value f p) before) at_p pair_at_p

    -- so it is a facet
    facet_from_ridge : IsRidge n points f g → IsFacet n more h
    facet_from_ridge ridge = record {
      dimension = c.dimension ∙ long;
      primitive = c.primitive;
      nonnegative = nonnegative_from more h (λ x i. at_all (λ y. pos 0 ≤ℤ value h y) (pair_nonnegative n points p long f g h left right c)
          (zero_least (value h p) c.vanishes) x (contains_from_in i));
      determined = λ u l along. ridge_multiple u l (ridge u l
          (λ x k e e'. along x (old_among x k) (pair_zero n points p long f g h left right c x e e')))
          (along p ((one_more p).1 (inr refl)) c.vanishes);
    }
      where
        zero_least : (a : ℤ) → a ≡ pos 0 → pos 0 ≤ℤ a
        zero_least a e = omega (arith, linear)

    -- f(p) u - u(p) f
    abbrev turned : Affine → Affine
    turned u = mixed (value f p) u (neg_ℤ (value u p)) f

    -- and where it is a facet, each function that vanishes with both is a combination: this one is a multiple of it
    ridge_from_facet : IsFacet n more h → IsRidge n points f g
    ridge_from_facet facet u l with_both =
        by (facet.determined (turned u) (length-mixed n (value f p) u (neg_ℤ (value u p)) f l left.dimension) along)
      where
        zero : (a b x y : ℤ) → x ≡ pos 0 → y ≡ pos 0 → a *ℤ x +ℤ b *ℤ y ≡ pos 0
        zero a b x y e e' = rw (e, e') (simp products_out)

        cancels : (a b : ℤ) → a *ℤ b +ℤ neg_ℤ b *ℤ a ≡ pos 0
        cancels a b = simp products_out (omega (arith, linear))

        along : (x : List ℤ) → Contains more x → value h x ≡ pos 0 → value (turned u) x ≡ pos 0
        along = at_all (λ x. value h x ≡ pos 0 → value (turned u) x ≡ pos 0)
            (λ x i z. at_old x i (pair_parts n points p long f g h left right c x i z))
            (λ z. value-mixed (value f p) u (neg_ℤ (value u p)) f p ∙ cancels (value f p) (value u p))
          where
            at_old : (x : List ℤ) → In x points → (value f x ≡ pos 0) × (value g x ≡ pos 0) → value (turned u) x ≡ pos 0
            at_old x i (e, e') = value-mixed (value f p) u (neg_ℤ (value u p)) f x
                ∙ zero (value f p) (neg_ℤ (value u p)) (value u x) (value f x) (with_both x (contains_from_in i) e e') e

        raised : (q s w l r a b u f g h m : ℤ) → q *ℤ m ≡ s *ℤ h → m ≡ a *ℤ u +ℤ neg_ℤ b *ℤ f → w *ℤ h ≡ l *ℤ f +ℤ r *ℤ g
            → ((w *ℤ q) *ℤ a) *ℤ u ≡ ((w *ℤ q) *ℤ b +ℤ s *ℤ l) *ℤ f +ℤ (s *ℤ r) *ℤ g
        raised q s w l r a b u f g h m e e' e'' =
            let t = simp products_out at (ap (λ (z : ℤ). w *ℤ z) (rw e' at e)) in
            let t' = simp products_out at (ap (λ (z : ℤ). s *ℤ z) e'') in
            simp products_out (omega (arith, linear))

        by : IsMultiple (turned u) h → IsRationalCombination f g u
        by m = record {
          whole = (w *ℤ m.left) *ℤ value f p;
          left = (w *ℤ m.left) *ℤ value u p +ℤ m.right *ℤ pos c.combination.left;
          right = m.right *ℤ pos c.combination.right;
          nonzero = product_nonzero (w *ℤ m.left) (value f p)
              (product_nonzero w m.left (positive_nonzero w (positive_pos c.combination.whole c.combination.positive.0)) m.nonzero)
              (positive_nonzero (value f p) before);
          normals = λ i. raised m.left m.right w (pos c.combination.left) (pos c.combination.right) (value f p) (value u p)
              (entry u.normal i)
              (entry f.normal i) (entry g.normal i) (entry h.normal i) (entry (turned u).normal i)
              (sym (entry-scaled m.left (turned u).normal i) ∙ ap (λ (v : List ℤ). entry v i) m.normals ∙ entry-scaled m.right h.normal i)
              (entry-mixed (value f p) u (neg_ℤ (value u p)) f i) (c.combination.normals i);
          constants = raised m.left m.right w (pos c.combination.left) (pos c.combination.right) (value f p)
              (value u p) u.constant f.constant g.constant
              h.constant (turned u).constant m.constants (constant-mixed (value f p) u (neg_ℤ (value u p)) f) c.combination.constants;
        }
          where
            w : ℤ
            w = pos c.combination.whole

  -- each facet of all stays or is such a combination
  module _ (long : length p ≡ n) (h : Affine) (facet : IsFacet n more h) where
    abbrev Outcome : Type 0
    Outcome = (IsFacet n points h × (pos 0 ≤ℤ value h p)) ⊎ ((f : Affine) × (g : Affine) × IsNewFacet n points p f g h)

    at_new : pos 0 ≤ℤ value h p
    at_new = nonnegative_at more h facet.nonnegative (in_from_contains more ((one_more p).1 (inr refl)))

    on_old : (x : List ℤ) → In x points → pos 0 ≤ℤ value h x
    on_old x i = nonnegative_at more h facet.nonnegative (in_from_contains more (old_among x (contains_from_in i)))

    -- a facet that is 0 at the points at which h is
    abbrev IsTerm : Affine → Type 0
    IsTerm k = IsFacet n points k × ((x : List ℤ) → In x points → value h x ≡ pos 0 → value k x ≡ pos 0)

    -- where it is 0 at the new point too, or h isn't, it is h
    term_stays : (k : Affine) → IsTerm k → (value h p ≡ pos 0 → value k p ≡ pos 0) → Outcome
    term_stays k (old, zeros) at_p = inl (
      subst (IsFacet n points)
          (same_as_multiple n points solid k h old facet.dimension facet.primitive (nonnegative_from points h on_old)
          (facet.determined k old.dimension (at_all (λ x. value h x ≡ pos 0 → value k x ≡ pos 0) zeros at_p))) old,
      at_new,
    )

    -- two of them with opposite signs at it combine to h
    terms_combine : value h p ≡ pos 0 → HasOpposite IsTerm p → Outcome
    terms_combine z t = by (pair_exists n points p solid long t.left t.right t.left_holds.0 t.right_holds.0 t.before t.behind)
      where
        by : (k : Affine) × IsCombinationAt t.left t.right p k → Outcome
        by (k, c) = inr (
          t.left,
          t.right,
          record {
            left = t.left_holds.0;
            right = t.right_holds.0;
            before = t.before;
            behind = t.behind;
            ridge = ridge_from_facet long t.left t.right h t.left_holds.0 t.right_holds.0 t.before combination facet;
            combination = combination;
          },
        )
          where
            zeros : (x : List ℤ) → Contains more x → value h x ≡ pos 0 → value k x ≡ pos 0
            zeros = at_all (λ x. value h x ≡ pos 0 → value k x ≡ pos 0)
                (λ x i e. pair_zero n points p long t.left t.right k t.left_holds.0 t.right_holds.0 c x (t.left_holds.1 x i e)
                (t.right_holds.1 x i e))
                (λ e. c.vanishes)

            zero_least : (a : ℤ) → a ≡ pos 0 → pos 0 ≤ℤ a
            zero_least a e = omega (arith, linear)

            nonnegative : (x : List ℤ) → In x more → pos 0 ≤ℤ value k x
            nonnegative x i = at_all (λ y. pos 0 ≤ℤ value k y)
                (pair_nonnegative n points p long t.left t.right k t.left_holds.0 t.right_holds.0 c) (zero_least (value k p) c.vanishes) x
                (contains_from_in i)

            same : h ≡ k
            same = same_from_multiple n more (all_solid long) h k facet c.primitive (nonnegative_from more k nonnegative)
                (facet.determined k (c.dimension ∙ long) zeros)

            combination : IsCombinationAt t.left t.right p h
            combination = subst (IsCombinationAt t.left t.right p) (sym same) c

    of_facet : Outcome
    of_facet = by (facets_generate_lem n points solid h facet.dimension (nonnegative_from points h on_old))
      where
        by : IsSumOfFacets n points h → Outcome
        by s = ⊎_elim
            (λ (q : pos 0 <ℤ value h p). term_stays first.0 (term first.0 first.1) (λ e. absurd (positive_nonzero (value h p) q e)))
            (λ (q : value h p ≤ℤ pos 0). at_zero (zero (value h p) at_new q))
            (positive_or_not (value h p))
          where
            first : (k : Affine) × In k s.summands
            first = some_summand n points solid h facet.dimension facet.primitive s

            term : (k : Affine) → In k s.summands → IsTerm k
            term k i = (
              summand_facet n points h s k i,
              λ x j e. summands_vanish n points h s x (λ g old. nonnegative_at points g old.nonnegative j) e k i,
            )

            zero : (a : ℤ) → pos 0 ≤ℤ a → a ≤ℤ pos 0 → a ≡ pos 0
            zero a l m = omega (arith, linear)

            total : value h p ≡ pos 0 → total_over s.summands p (pos 1) ≡ pos 0
            total e = sym (s.sums p (pos 1)) ∙ ap (λ (z : ℤ). pos s.multiplier *ℤ z) (value_at_one h p ∙ e) ∙ *ℤ-zero (pos s.multiplier)

            at_zero : value h p ≡ pos 0 → Outcome
            at_zero e = decide (zero_or_opposite IsTerm s.summands p first.1 (each_from_in s.summands term) (total e))
              where
                decide : ((k : Affine) × IsTerm k × (value k p ≡ pos 0)) ⊎ HasOpposite IsTerm p → Outcome
                decide (inl (k, t, z)) = term_stays k t (λ x. z)
                decide (inr t) = terms_combine e t

pub facets_stay_lem : FacetsStay
facets_stay_lem n points p more solid one_more f facet h = stays n points p more solid one_more f facet h

-- the law on ridges and new facets
pub ridges_give_facets_lem : RidgesGiveFacets
ridges_give_facets_lem n points p more solid long one_more f g h left right before behind c = (
  ridge_from_facet n points p more solid one_more long f g h left right before c,
  facet_from_ridge n points p more solid one_more long f g h left right before c,
)

-- the law on all facets
pub facets_of_one_more_lem : FacetsOfOneMore
facets_of_one_more_lem n points p more solid long one_more h = (of_facet n points p more solid one_more long h, back)
  where
    back : (IsFacet n points h × (pos 0 ≤ℤ value h p)) ⊎ ((f : Affine) × (g : Affine) × IsNewFacet n points p f g h) → IsFacet n more h
    back (inl (facet, q)) = stays n points p more solid one_more h facet q
    back (inr (f, g, new)) = facet_from_ridge n points p more solid one_more long f g h new.left new.right new.before new.combination
        new.ridge
