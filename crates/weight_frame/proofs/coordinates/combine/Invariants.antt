use Rattle.std.proofs.Common.{◌≡◌, ℕ, ◌<◌, length}
use Rattle.lattice_theory.specs.Vector.{entry, dot}
use Rattle.weight_frame.proofs.Leads.{column}
use Rattle.weight_frame.proofs.coordinates.combine.Given as goal

abbrev pub invariant-loop-i : goal.invariant-loop-i
invariant-loop-i l = record {
  length : length l.out ≡ length l.fn.out;
  entries : (k : ℕ) → k < l.i → entry l.out k ≡ dot l.coefficients (column k l.vectors);
}
