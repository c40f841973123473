use Rattle.std.proofs.Common.{ℕ, suc, ◌<◌, ◌≤◌, get_or}
use Rattle.weight_enum.proofs.weights.is_ascending.Given as goal

abbrev pub invariant-loop-i : goal.invariant-loop-i
invariant-loop-i l = (j : ℕ) → suc j < l.i → get_or l.weights j 0 ≤ get_or l.weights (suc j) 0
