-- An item has one polytope, one pair, or one refusal.
use Rattle.std.proofs.Common.{◌≡◌, List, ℤ, ap, subst, inl, inr}
use Rattle.lattice_core.specs.declared.faults.Refusal.{Refusal}
use Rattle.lattice_core.specs.declared.faults.Refusal.TheVariants.{Flat, Limit}
use Rattle.palp_input.specs.Grammar.{Listed}
use Rattle.item_points.proofs.SingleItems.{one_list_of_points, one_points_refusal, points_or_refusal, points_are_item_points}
use Rattle.dual_pair.specs.Polytopes.{PolytopeState, IsPolytopeOf, HasNoPolytope}
use Rattle.dual_pair.specs.Pairs.{PairState, IsReflexivePolytope, HasNoDual}
use Rattle.dual_pair.specs.declared.pair.Kind.TheVariants as kinds
use Rattle.dual_pair.proofs.VertexLists.{polytopes_are_single_lem}
use Rattle.dual_pair.proofs.PairLaws.{pairs_are_single_lem}
use Rattle.dual_pair.proofs.SingleRefusals.{one_polytope_refusal_lem, polytope_or_refusal_lem, one_dual_refusal_lem, dual_or_refusal_lem}
use Rattle.item_polytopes.specs.Kinds.{HasPolytope, HasBarePoints, IsPolytopeRefusal, IsOther, HasPair, HasLargeDual, IsKindRefusal}
use Rattle.item_polytopes.specs.Laws.{OnePolytope, OnePolytopeRefusal, PolytopeOrRefusal, OneKind, OneKindRefusal, KindOrRefusal}

-- a refusal of the dual tells a reflexive polytope
pub large_is_reflexive : (p : PolytopeState) (cause : Refusal) → HasNoDual p cause → IsReflexivePolytope p
large_is_reflexive p (Flat f) h = absurd h
large_is_reflexive p (Limit name told) h = h.0

module _ (item : Listed) where
  -- an item has one polytope, and one pair
  pub one_polytope : (p q : PolytopeState) → HasPolytope item p → HasPolytope item q → p ≡ q
  one_polytope p q a b =
      let same = one_list_of_points item b.points a.points b.has_points a.has_points in
      polytopes_are_single_lem a.points p q a.is_polytope (subst (λ (xs : List (List ℤ)). IsPolytopeOf xs q) same b.is_polytope)

  pub one_pair : (pair other : PairState) → HasPair item pair → HasPair item other → pair ≡ other
  one_pair pair other a b = pairs_are_single_lem pair other a.is_pair b.is_pair (one_polytope pair.m other.m a.has_polytope b.has_polytope)

  same_bare : (points : List (List ℤ)) (cause : Refusal) (b : HasBarePoints item cause) → b.points ≡ points → HasNoPolytope points cause
  same_bare points cause b same = subst (λ (xs : List (List ℤ)). HasNoPolytope xs cause) same b.refused

  polytope_or_bare : (p : PolytopeState) (cause : Refusal) → HasPolytope item p → HasBarePoints item cause → ⊥
  polytope_or_bare p cause a b = polytope_or_refusal_lem a.points p cause a.is_polytope
      (same_bare a.points cause b (one_list_of_points item b.points a.points b.has_points a.has_points))

  one_bare : (cause other : Refusal) → HasBarePoints item cause → HasBarePoints item other → cause ≡ other
  one_bare cause other a b = one_polytope_refusal_lem a.points cause other (points_are_item_points item a.points a.has_points).sized.are_points.some
      a.refused (same_bare a.points other b (one_list_of_points item b.points a.points b.has_points a.has_points))

  -- or one refusal
  pub one_polytope_refusal : (cause other : Refusal) → IsPolytopeRefusal item cause → IsPolytopeRefusal item other → cause ≡ other
  one_polytope_refusal cause other (inl a) (inl b) = one_points_refusal item cause other a b
  one_polytope_refusal cause other (inl a) (inr b) = absurd (points_or_refusal item b.points cause b.has_points a)
  one_polytope_refusal cause other (inr a) (inl b) = absurd (points_or_refusal item a.points other a.has_points b)
  one_polytope_refusal cause other (inr a) (inr b) = one_bare cause other a b

  pub polytope_or_refusal : (p : PolytopeState) (cause : Refusal) → HasPolytope item p → IsPolytopeRefusal item cause → ⊥
  polytope_or_refusal p cause a (inl b) = points_or_refusal item a.points cause a.has_points b
  polytope_or_refusal p cause a (inr b) = polytope_or_bare p cause a b

  -- a reflexive polytope isn't another one
  pub reflexive_or_other : (p q : PolytopeState) → HasPolytope item p → IsReflexivePolytope p → HasPolytope item q
      → (IsReflexivePolytope q → ⊥) → ⊥
  reflexive_or_other p q a r b none = none (subst (λ (x : PolytopeState). IsReflexivePolytope x) (one_polytope p q a b) r)

  pub other_or_pair : (p : PolytopeState) (pair : PairState) → IsOther item p → HasPair item pair → ⊥
  other_or_pair p pair a b = reflexive_or_other pair.m p b.has_polytope b.is_pair.reflexive a.has_polytope a.other

  -- the refusal of a dual is that of the item's polytope
  pub same_large : (p : PolytopeState) (cause : Refusal) (b : HasLargeDual item cause) → HasPolytope item p → HasNoDual p cause
  same_large p cause b a = subst (λ (q : PolytopeState). HasNoDual q cause) (one_polytope b.polytope p b.has_polytope a) b.refused

  pub one_kind_refusal : (cause other : Refusal) → IsKindRefusal item cause → IsKindRefusal item other → cause ≡ other
  one_kind_refusal cause other (inl a) (inl b) = one_polytope_refusal cause other a b
  one_kind_refusal cause other (inl a) (inr b) = absurd (polytope_or_refusal b.polytope cause b.has_polytope a)
  one_kind_refusal cause other (inr a) (inl b) = absurd (polytope_or_refusal a.polytope other a.has_polytope b)
  one_kind_refusal cause other (inr a) (inr b) =
      one_dual_refusal_lem a.polytope cause other a.refused (same_large a.polytope other b a.has_polytope)

  pub pair_or_refusal : (pair : PairState) (cause : Refusal) → HasPair item pair → IsKindRefusal item cause → ⊥
  pair_or_refusal pair cause a (inl b) = polytope_or_refusal pair.m cause a.has_polytope b
  pair_or_refusal pair cause a (inr b) = dual_or_refusal_lem pair cause a.is_pair (same_large pair.m cause b a.has_polytope)

  pub other_or_kind_refusal : (p : PolytopeState) (cause : Refusal) → IsOther item p → IsKindRefusal item cause → ⊥
  other_or_kind_refusal p cause a (inl b) = polytope_or_refusal p cause a.has_polytope b
  other_or_kind_refusal p cause a (inr b) = a.other (large_is_reflexive p cause (same_large p cause b a.has_polytope))

-- the laws
pub one_polytope_lem : OnePolytope
one_polytope_lem item p q a b = one_polytope item p q a b

pub one_polytope_refusal_of_item_lem : OnePolytopeRefusal
one_polytope_refusal_of_item_lem item cause other a b = one_polytope_refusal item cause other a b

pub item_polytope_or_refusal_lem : PolytopeOrRefusal
item_polytope_or_refusal_lem item p cause a b = polytope_or_refusal item p cause a b

pub one_kind_lem : OneKind
one_kind_lem item (kinds.Reflexive pair) (kinds.Reflexive other) a b = ap kinds.Reflexive (one_pair item pair other a b)
one_kind_lem item (kinds.Reflexive pair) (kinds.Other p) a b = absurd (other_or_pair item p pair b a)
one_kind_lem item (kinds.Other p) (kinds.Reflexive pair) a b = absurd (other_or_pair item p pair a b)
one_kind_lem item (kinds.Other p) (kinds.Other q) a b = ap kinds.Other (one_polytope item p q a.has_polytope b.has_polytope)

pub one_kind_refusal_lem : OneKindRefusal
one_kind_refusal_lem item cause other a b = one_kind_refusal item cause other a b

pub kind_or_refusal_lem : KindOrRefusal
kind_or_refusal_lem item (kinds.Reflexive pair) cause a b = pair_or_refusal item pair cause a b
kind_or_refusal_lem item (kinds.Other p) cause a b = other_or_kind_refusal item p cause a b
