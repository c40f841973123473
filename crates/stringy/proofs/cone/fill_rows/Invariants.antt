use Rattle.std.proofs.Common.{◌≡◌, ℕ, ◌^◌, ◌<◌, ◌≤◌, nat_abs, length}
use Rattle.lattice_theory.specs.Vector.{entry}
use Rattle.polynomial_theory.specs.Series.{HasDegreeAtMost}
use Rattle.stringy.specs.ConeNumbers.{IsHStar}
use Rattle.stringy.specs.RowSteps.{row_at, degree_of}
use Rattle.stringy.proofs.cone.fill_rows.Given as goal

abbrev pub invariant-loop-face : goal.invariant-loop-face
invariant-loop-face g l = record {
  long : length l.rows ≡ 32768;
  small : (j : ℕ) → nat_abs (entry l.rows j) ≤ 2 ^ 28;
  degree : (f : ℕ) → f < l.face → HasDegreeAtMost (degree_of l.table l.side f) (row_at l.rows f);
  done : (f : ℕ) → f < l.face → IsHStar l.table (g.C.FaceNumbers.numbers l.counts) l.side f (row_at l.rows f);
}
