-- The polytope of a weight system is that of the weight line of this one system; and what it turns out to be (math/0204356: weight systems and
-- their polytopes; alg-geom/9310003: reflexive polytopes).
use Rattle.std.specs.Prelude.{[], ◌∷◌}
use Rattle.lattice_core.specs.Weights.{Weighted}
use Rattle.palp_input.specs.Grammar.{Listed, ListedWeights}
use Rattle.dual_pair.specs.Polytopes.{PolytopeState}
use Rattle.dual_pair.specs.Pairs.{IsReflexivePolytope}
use Rattle.item_polytopes.specs.Kinds.{HasPolytope, IsOther}

-- the weight line of one system
abbrev pub line_of : Weighted → Listed
line_of system = ListedWeights (system ∷ [])

-- the polytope is reflexive
pub record IsReflexiveSystem (system : Weighted) : Type 0 where
  pub polytope : PolytopeState
  pub has_polytope : HasPolytope (line_of system) polytope
  pub reflexive : IsReflexivePolytope polytope

-- the polytope isn't
pub record IsOtherSystem (system : Weighted) : Type 0 where
  pub polytope : PolytopeState
  pub is_other : IsOther (line_of system) polytope
