-- The laws of pairs.
use Rattle.std.proofs.Common.{◌≡◌, ℕ, ◌<◌, ◌≤◌, List, length, ℤ, sym, ap, ◌∙◌, subst, arith}
use Rattle.lattice_theory.specs.Affine.{Affine}
use Rattle.lattice_theory.specs.Order.{LexLess}
use Rattle.lattice_theory.specs.Size.{size}
use Rattle.lattice_theory.proofs.Orders.{lex_asymmetric}
use Rattle.lattice_theory.proofs.Unique.{lists_unique}
use Rattle.duality_theory.specs.Reflexive.{IsDualPoint, normals_of}
use Rattle.lattice_core.specs.Dimensions.{dimension_of}
use Rattle.lattice_core.specs.Limits.{size_limit_of}
use Rattle.lattice_core.specs.declared.faults.Refusal.TheVariants.{Flat, Limit}
use Rattle.lattice_core.specs.declared.faults.LimitName.TheVariants.{DualSize, DualPoints}
use Rattle.dual_pair.specs.Polytopes.{PolytopeState}
use Rattle.dual_pair.specs.Pairs.{IsDualOf, PairState, IsPair, HasManyDualPoints}
use Rattle.dual_pair.specs.Laws.{PairsAreSingle, ExchangedPairs, NoLimitOnTheWayBack}
use Rattle.dual_pair.proofs.DualSides.{dual_dimension, exchanged_pair}

-- both sides have one dimension
same_dimension : (pair : PairState) → IsPair pair → dimension_of pair.m.vertices ≡ dimension_of pair.n.vertices
same_dimension pair is = sym (dual_dimension pair.m is.polytope is.reflexive) ∙ ap dimension_of (sym is.dual.vertices_are)

-- a polytope has one dual
one_dual : (p q r : PolytopeState) → IsDualOf p q → IsDualOf p r → q ≡ r
one_dual p q r a b =
    ap (λ (vs : List (List ℤ)). record { vertices = vs; facets = q.facets; points = q.points }) (a.vertices_are ∙ sym b.vertices_are)
    ∙ ap (λ (fs : List Affine). record { vertices = r.vertices; facets = fs; points = q.points }) (a.facets_are ∙ sym b.facets_are)
    ∙ ap (λ (xs : List (List ℤ)). record { vertices = r.vertices; facets = r.facets; points = xs })
    (lists_unique LexLess lex_asymmetric (IsDualPoint (dimension_of p.vertices) p.vertices) q.points r.points a.points_are b.points_are)

pub pairs_are_single_lem : PairsAreSingle
pairs_are_single_lem a b is_a is_b same =
    ap (λ (p : PolytopeState). record { m = p; n = a.n }) same
    ∙ ap (λ (q : PolytopeState). record { m = b.m; n = q })
    (one_dual b.m a.n b.n (subst (λ (p : PolytopeState). IsDualOf p a.n) same is_a.dual) is_b.dual)

pub exchanged_pairs_lem : ExchangedPairs
exchanged_pairs_lem pair is = exchanged_pair pair is

-- the dual's dual is the polytope, which is within the limits
pub no_limit_on_the_way_back_lem : NoLimitOnTheWayBack
no_limit_on_the_way_back_lem pair is (Flat f) h = absurd h
no_limit_on_the_way_back_lem pair is (Limit DualSize told) h = above (size (dimension_of pair.m.vertices) pair.m.vertices)
    (size_limit_of (dimension_of pair.m.vertices)) is.polytope.solid.sized.within (own h.1.1)
  where
    back : IsPair (record { m = pair.n; n = pair.m })
    back = exchanged_pair pair is

    above : (a b : ℕ) → a ≤ b → b < a → ⊥
    above a b h k = omega arith

    own : size_limit_of (dimension_of pair.n.vertices) < size (dimension_of pair.n.vertices) (normals_of pair.n.facets)
        → size_limit_of (dimension_of pair.m.vertices) < size (dimension_of pair.m.vertices) pair.m.vertices
    own k = subst (λ (n : ℕ). size_limit_of n < size n pair.m.vertices) (sym (same_dimension pair is))
        (subst (λ (vs : List (List ℤ)). size_limit_of (dimension_of pair.n.vertices) < size (dimension_of pair.n.vertices) vs)
        (sym back.dual.vertices_are) k)
no_limit_on_the_way_back_lem pair is (Limit DualPoints told) h = clash h.1.0
  where
    back : IsPair (record { m = pair.n; n = pair.m })
    back = exchanged_pair pair is

    clash : HasManyDualPoints pair.n → ⊥
    clash many =
        let same : length many.points ≡ length pair.m.points = ap (λ (xs : List (List ℤ)). length xs)
        (lists_unique LexLess lex_asymmetric (IsDualPoint (dimension_of pair.n.vertices) pair.n.vertices) many.points pair.m.points many.are_points
        back.dual.points_are) in
        let most = many.many in let few = is.polytope.few_points in omega arith
no_limit_on_the_way_back_lem pair is (Limit other told) h = absurd h.1
