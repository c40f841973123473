use Rattle.std.proofs.Common.{◌≡◌, ℕ, ◌^◌, ◌<◌, ◌≤◌, pos, ◌≤ℤ◌, nat_abs, length}
use Rattle.lattice_theory.specs.Vector.{entry}
use Rattle.stringy.specs.ConeNumbers.{points_of}
use Rattle.stringy.proofs.cone.count_row.Given as goal

abbrev pub invariant-loop-s : goal.invariant-loop-s
invariant-loop-s g l = record {
  whole : length l.row ≡ 9;
  done : (j : ℕ) → j < l.s → entry l.row j ≡ points_of (g.C.FaceNumbers.numbers l.counts) l.side l.face j;
  counts : (j : ℕ) → pos 0 ≤ℤ entry l.row j;
  small : (j : ℕ) → nat_abs (entry l.row j) ≤ 2 ^ 21;
}
