use Rattle.std.proofs.Common.{◌≡◌, length}
use Rattle.weight_tails.specs.steps.Levels.{TellAlike}
use Rattle.weight_tails.proofs.LevelSteps.{AreMade, AreLater}
use Rattle.weight_tails.proofs.levels.add_weight.Given as goal

abbrev pub invariant-loop-number : goal.invariant-loop-number
invariant-loop-number l = record {
  columns : length l.levels ≡ length l.initial.levels;
  later : AreLater l.initial.levels l.levels l.number;
  alike : TellAlike l.count l.initial.levels l.levels;
  made : AreMade l.count l.weight l.initial.levels l.levels l.number;
}
