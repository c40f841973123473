use Rattle.std.proofs.Common.{◌≡◌, ◌-◌, length, take}
use Rattle.lattice_core.specs.Weights.{weighted_all}
use Rattle.weight_tails.specs.steps.Levels.{TellAlike}
use Rattle.weight_enum.specs.steps.Listing.{AddsSystems}
use Rattle.weight_enum.proofs.Listing.{IsCompletedBelow}
use Rattle.weight_enum.proofs.degrees.+add_systems.Given as goal

abbrev pub decreases-add_systems : goal.decreases-add_systems
decreases-add_systems l = length l.weights.now - l.place

abbrev pub invariant-loop-weight : goal.invariant-loop-weight
invariant-loop-weight l = record {
  columns : length l.weights ≡ length l.initial.weights;
  kept : take l.place l.weights ≡ take l.place l.initial.weights;
  numbers : length l.levels ≡ length l.initial.levels;
  alike : TellAlike l.place l.initial.levels l.levels;
  systems : AddsSystems (IsCompletedBelow l.degree (length l.initial.weights) (take l.place l.initial.weights) l.weight) l.degree
      (weighted_all l.initial.found.systems.items) (weighted_all l.found.systems.items);
}
