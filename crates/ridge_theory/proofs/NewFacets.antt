-- No new facet is an old one or is found twice, and the facets of some of the points that aren't negative at any are those of all.
use Rattle.std.proofs.Common.{◌≡◌, List, ℤ, pos, ◌<ℤ◌, ◌⊎◌, inl, inr, sym, ap, ◌∙◌, subst, arith}
use Rattle.std.specs.List.{Contains}
use Rattle.lattice_theory.specs.Affine.{Affine, value, IsNonnegative}
use Rattle.lattice_theory.specs.Facet.{IsFacet}
use Rattle.lattice_theory.proofs.Integers.{linear, positive_nonzero}
use Rattle.lattice_theory.proofs.Members.{In, in_from_contains, contains_from_in}
use Rattle.facet_theory.specs.Sums.{IsSumOfFacets}
use Rattle.facet_theory.proofs.Different.{facets_differ_lem}
use Rattle.facet_theory.proofs.Generate.{facets_generate_lem}
use Rattle.facet_theory.proofs.Signs.{nonnegative_at, nonnegative_from}
use Rattle.ridge_theory.specs.Ridges.{VanishesWithBoth}
use Rattle.ridge_theory.specs.Laws.{NewFacetsAreNew, NewFacetsDiffer, FacetsOfAll}
use Rattle.ridge_theory.proofs.Summands.{summand_facet, summands_vanish, some_summand, same_as_multiple}
use Rattle.ridge_theory.proofs.Pairs.{pair_zero, pair_parts}
use Rattle.ridge_theory.proofs.ThirdFacets.{ridges_by_facets_lem}

-- the law on old facets: both of the pair would be the combination
pub new_facets_are_new_lem : NewFacetsAreNew
new_facets_are_new_lem n points p solid long f g h new facet = positive_nonzero (value f p) new.before
    (ap (λ (k : Affine). value k p) (sym same) ∙ new.combination.vanishes)
  where
    same : h ≡ f
    same = facets_differ_lem n points solid h f facet new.left
        (λ x c z. (pair_parts n points p long f g h new.left new.right new.combination x (in_from_contains points c) z).0)

-- a facet that is positive at p and one that is negative there
opposite_differ : (f g : Affine) (p : List ℤ) → pos 0 <ℤ value f p → value g p <ℤ pos 0 → f ≡ g → ⊥
opposite_differ f g p h k e = clash (value f p) (value g p) h k (ap (λ (u : Affine). value u p) e)
  where
    clash : (a b : ℤ) → pos 0 <ℤ a → b <ℤ pos 0 → a ≡ b → ⊥
    clash a b h k e = absurd (omega (arith, linear))

-- the law on equal combinations: each facet of the second pair vanishes with both of the first
pub new_facets_differ_lem : NewFacetsDiffer
new_facets_differ_lem n points p solid long f g f' g' h new new' =
    (first (among f' new'.left (λ x c e e'. (both x c e e').0)), second (among g' new'.right (λ x c e e'. (both x c e e').1)))
  where
    both : (x : List ℤ) → Contains points x → value f x ≡ pos 0 → value g x ≡ pos 0 → (value f' x ≡ pos 0) × (value g' x ≡ pos 0)
    both x c e e' = pair_parts n points p long f' g' h new'.left new'.right new'.combination x (in_from_contains points c)
        (pair_zero n points p long f g h new.left new.right new.combination x e e')

    among : (k : Affine) → IsFacet n points k → VanishesWithBoth points f g k → (k ≡ f) ⊎ (k ≡ g)
    among = (ridges_by_facets_lem n points solid f g new.left new.right).0 new.ridge

    first : (f' ≡ f) ⊎ (f' ≡ g) → f ≡ f'
    first (inl e) = sym e
    first (inr e) = absurd (opposite_differ f' g p new'.before new.behind e)

    second : (g' ≡ f) ⊎ (g' ≡ g) → g ≡ g'
    second (inl e) = absurd (opposite_differ f g' p new.before new'.behind (sym e))
    second (inr e) = sym e

-- the law on all points
pub facets_of_all_lem : FacetsOfAll
facets_of_all_lem n points more solid among least f = (to_all, from_all)
  where
    to_all : IsFacet n points f → IsFacet n more f
    to_all facet = record {
      dimension = facet.dimension;
      primitive = facet.primitive;
      nonnegative = nonnegative_from more f (λ x i. least f facet x (contains_from_in i));
      determined = λ g l along. facet.determined g l (λ x c z. along x (among x c) z);
    }

    from_all : IsFacet n more f → IsFacet n points f
    from_all facet = by (facets_generate_lem n points solid f facet.dimension on_points)
      where
        on_points : IsNonnegative points f
        on_points = nonnegative_from points f
            (λ x i. nonnegative_at more f facet.nonnegative (in_from_contains more (among x (contains_from_in i))))

        by : IsSumOfFacets n points f → IsFacet n points f
        by s = at (some_summand n points solid f facet.dimension facet.primitive s)
          where
            at : (k : Affine) × In k s.summands → IsFacet n points f
            at (k, i) = subst (IsFacet n points)
                (same_as_multiple n points solid k f (summand_facet n points f s k i) facet.dimension facet.primitive on_points
                (facet.determined k (summand_facet n points f s k i).dimension
                (λ x c z. summands_vanish n points f s x (λ g old. least g old x c) z k i))) (summand_facet n points f s k i)
