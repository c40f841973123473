use Rattle.std.proofs.Common.{ℕ, ◌+◌, ◌<◌, ◌≤◌, length}
use Rattle.weight_tails.specs.steps.Levels.{TakesTwice}
use Rattle.weight_tails.proofs.levels.are_taken_twice.Given as goal

abbrev pub invariant-loop-i : goal.invariant-loop-i
invariant-loop-i l = (j : ℕ) → j < length l.weights → length l.weights ≤ j + l.i → TakesTwice l.degree l.weights j
