use Rattle.std.proofs.Common.{[], ◌∷◌, refl}
use Rattle.weight_tails.proofs.tests.list.Goals as goal

pub tails_of-requires-clause-levels : goal.tails_of-requires-clause-levels
tails_of-requires-clause-levels c = c.add_weight-2.ensures.levels (1 ∷ []) refl (c.add_weight.ensures.levels [] refl c.requires.none)

pub are_taken_twice-requires-clause-levels : goal.are_taken_twice-requires-clause-levels
are_taken_twice-requires-clause-levels c = c.add_weight-2.ensures.levels (1 ∷ []) refl (c.add_weight.ensures.levels [] refl c.requires.none)
