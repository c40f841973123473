use Rattle.std.proofs.Common.{refl}
use Rattle.walk_theory.specs.Walks.{walk, in_turn}
use Rattle.walk_theory.proofs.short_steps_are_an_example.Goals as goal

pub returns : goal.returns
unfolding walk in_turn
returns c = refl
