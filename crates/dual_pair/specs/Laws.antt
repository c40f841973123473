-- The laws of polytopes.
use Rattle.std.specs.Prelude.{◌≡◌, ◌<◌, List, length, ℤ}
use Rattle.lattice_core.specs.Dimensions.{dimension_of}
use Rattle.lattice_core.specs.declared.faults.Refusal.{Refusal}
use Rattle.dual_pair.specs.Polytopes.{PolytopeState, IsPolytopeOf, IsPolytope, HasNoPolytope}
use Rattle.dual_pair.specs.Pairs.{PairState, IsPair, exchanged, HasNoDual}

-- the polytope of points is that of its vertices, of the same dimension
abbrev pub PolytopeOfVertices : Type 0
PolytopeOfVertices = (points : List (List ℤ)) (p : PolytopeState) → IsPolytopeOf points p
    → IsPolytope p × (dimension_of p.vertices ≡ dimension_of points)

-- points have at most one polytope
abbrev pub PolytopesAreSingle : Type 0
PolytopesAreSingle = (points : List (List ℤ)) (p q : PolytopeState) → IsPolytopeOf points p → IsPolytopeOf points q → p ≡ q

-- a polytope has at most one pair
abbrev pub PairsAreSingle : Type 0
PairsAreSingle = (a b : PairState) → IsPair a → IsPair b → a.m ≡ b.m → a ≡ b

-- the sides of a pair, exchanged, are a pair: the dual of the dual is the polytope
abbrev pub ExchangedPairs : Type 0
ExchangedPairs = (pair : PairState) → IsPair pair → IsPair (exchanged pair)

-- no limit is exceeded on the way back
abbrev pub NoLimitOnTheWayBack : Type 0
NoLimitOnTheWayBack = (pair : PairState) → IsPair pair → (cause : Refusal) → HasNoDual pair.n cause → ⊥

-- points are refused for no two causes, and not where they have a polytope
abbrev pub OnePolytopeRefusal : Type 0
OnePolytopeRefusal = (points : List (List ℤ)) (cause other : Refusal) → 0 < length points → HasNoPolytope points cause → HasNoPolytope points other
    → cause ≡ other

abbrev pub PolytopeOrRefusal : Type 0
PolytopeOrRefusal = (points : List (List ℤ)) (p : PolytopeState) (cause : Refusal) → IsPolytopeOf points p → HasNoPolytope points cause → ⊥

-- a dual is refused for no two causes, and not where there is one
abbrev pub OneDualRefusal : Type 0
OneDualRefusal = (p : PolytopeState) (cause other : Refusal) → HasNoDual p cause → HasNoDual p other → cause ≡ other

abbrev pub DualOrRefusal : Type 0
DualOrRefusal = (pair : PairState) (cause : Refusal) → IsPair pair → HasNoDual pair.m cause → ⊥
