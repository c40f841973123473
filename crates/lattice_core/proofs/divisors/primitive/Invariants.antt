use Rattle.std.proofs.Common.{◌≡◌, take, pos}
use Rattle.arrayvec.specs.ArrayVec.{array_vec_len}
use Rattle.lattice_theory.specs.Vector.{scaled}
use Rattle.lattice_core.proofs.divisors.primitive.Given as goal

abbrev pub invariant-loop-entry : goal.invariant-loop-entry
invariant-loop-entry l = record {
  length : array_vec_len l.quotients ≡ l.entry-index;
  multiple : scaled (pos l.divisor) l.quotients.items ≡ take l.entry-index l.v;
}
