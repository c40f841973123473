-- What is said of an item's polytope is said once: the laws of this crate, as statements. This project's own.
use Rattle.std.specs.Prelude.{◌≡◌, ℕ, List}
use Rattle.lattice_core.specs.Weights.{Weighted, AreWellFormed}
use Rattle.lattice_core.specs.declared.faults.Refusal.{Refusal}
use Rattle.lattice_core.specs.declared.faults.Refusal.TheVariants.{Limit}
use Rattle.lattice_core.specs.declared.faults.LimitName.TheVariants.{Points}
use Rattle.palp_input.specs.Grammar.{Listed, ListedWeights}
use Rattle.dual_pair.specs.Polytopes.{PolytopeState}
use Rattle.dual_pair.specs.declared.pair.Kind.{Kind}
use Rattle.item_polytopes.specs.Kinds.{HasPolytope, HasBarePoints, IsPolytopeRefusal, IsKind, IsKindRefusal}

-- an item has no two polytopes
abbrev pub OnePolytope : Type 0
OnePolytope = (item : Listed) (p q : PolytopeState) → HasPolytope item p → HasPolytope item q → p ≡ q

-- it is refused for no two causes
abbrev pub OnePolytopeRefusal : Type 0
OnePolytopeRefusal = (item : Listed) (cause other : Refusal) → IsPolytopeRefusal item cause → IsPolytopeRefusal item other → cause ≡ other

-- and not where it has a polytope
abbrev pub PolytopeOrRefusal : Type 0
PolytopeOrRefusal = (item : Listed) (p : PolytopeState) (cause : Refusal) → HasPolytope item p → IsPolytopeRefusal item cause → ⊥

-- an item has no two pairs, nor a pair and a polytope that isn't reflexive
abbrev pub OneKind : Type 0
OneKind = (item : Listed) (kind other : Kind) → IsKind item kind → IsKind item other → kind ≡ other

-- it is refused for no two causes
abbrev pub OneKindRefusal : Type 0
OneKindRefusal = (item : Listed) (cause other : Refusal) → IsKindRefusal item cause → IsKindRefusal item other → cause ≡ other

-- and not where it has a pair, or a polytope that isn't reflexive
abbrev pub KindOrRefusal : Type 0
KindOrRefusal = (item : Listed) (kind : Kind) (cause : Refusal) → IsKind item kind → IsKindRefusal item cause → ⊥

-- The limit on lattice points isn't exceeded by those of a weight line: they are the points of the exponent vectors, of which there are few.
abbrev pub WeightLinesHaveFewPoints : Type 0
WeightLinesHaveFewPoints = (systems : List Weighted) (told : ℕ) → AreWellFormed systems
    → HasBarePoints (ListedWeights systems) (Limit Points told) → ⊥
