-- What a polytope turns out to be. This project's own.
use Rattle.std.specs.Prelude.{◌≡◌}
use Rattle.dual_pair.specs.Polytopes.{PolytopeState}
use Rattle.dual_pair.specs.Pairs.{IsReflexivePolytope, IsPair}
use Rattle.dual_pair.specs.declared.pair.Kind.{Kind}
use Rattle.dual_pair.specs.declared.pair.Kind.TheVariants as kinds

-- a pair exactly where it is reflexive, and otherwise itself
abbrev pub IsKindOf : PolytopeState → Kind → Type 0
IsKindOf p (kinds.Reflexive pair) = IsReflexivePolytope p × IsPair pair × (pair.m ≡ p)
IsKindOf p (kinds.Other q) = (IsReflexivePolytope p → ⊥) × (q ≡ p)
