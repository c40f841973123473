use Rattle.std.proofs.Common.{◌≡◌, ℕ, ◌<◌, length, slice_index_or}
use Rattle.nef_parts.specs.steps.Agreeing.{AgreesIn}
use Rattle.nef_parts.proofs.partitions.write_points.Given as goal

abbrev pub invariant-loop-k : goal.invariant-loop-k
invariant-loop-k l = record {
  count : length l.points ≡ length l.fn.points;
  written : (j : ℕ) → j < l.k → AgreesIn l.masks l.begin l.r j (slice_index_or l.points j 0);
}
