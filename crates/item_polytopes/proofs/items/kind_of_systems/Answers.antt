use Rattle.std.proofs.lemmas.Result.{MatchResult-from_both}
use Rattle.lattice_core.specs.Weights.{weighted_all}
use Rattle.palp_input.specs.Grammar.{ListedWeights}
use Rattle.item_polytopes.proofs.ItemSteps.{kind_of_polytope}
use Rattle.item_polytopes.proofs.items.kind_of_systems.Goals as goal

pub returns : goal.returns
returns c = kind_of_polytope (ListedWeights (weighted_all c.args.systems.now)) c.in_ok-polytope.polytope c.in_ok-polytope.ensures c.of.result
    (MatchResult-from_both c.of.result _ _ c.of.ensures.kind c.of.ensures.refused)
