use Rattle.std.specs.Prelude.{nat_abs, ◌*ℤ◌, ◌-ℤ◌}
use Rattle.std.specs.List.{All}
use Rattle.std.proofs.Common.{◌≡◌, ℕ, ◌<◌, ◌^◌, length}
use Rattle.lattice_theory.specs.Vector.{entry}
use Rattle.point_scan.proofs.eliminations.eliminated.Given as goal

abbrev pub invariant-loop-i : goal.invariant-loop-i
invariant-loop-i l = record {
  length : length l.sums.items ≡ l.i;
  small : All (λ a. nat_abs a < 2 ^ 127) l.sums.items;
  entries : (m : ℕ) → m < l.i
      → entry l.sums.items m ≡ entry l.rising l.k *ℤ entry l.falling m -ℤ entry l.falling l.k *ℤ entry l.rising m;
}
