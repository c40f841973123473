use Rattle.std.proofs.Common.{◌≡◌, length, take}
use Rattle.weight_tails.specs.steps.Levels.{AreLevels}
use Rattle.weight_enum.proofs.interior.add_front.Given as goal

abbrev pub invariant-loop-count : goal.invariant-loop-count
invariant-loop-count l = record {
  columns : length l.levels ≡ length l.initial.levels;
  levels : AreLevels (take l.count l.weights) l.levels;
}
