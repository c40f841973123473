use Rattle.std.proofs.Common.{◌≡◌, ◌+◌, ◌*◌, false, length, slice_index_or}
use Rattle.incidence.specs.Incidences.{HasExactly}
use Rattle.incidence.proofs.table.table_row.Given as goal

abbrev pub invariant-loop-n : goal.invariant-loop-n
invariant-loop-n l = record {
  whole : length l.words ≡ 64;
  bits : HasExactly l.n (λ n. slice_index_or l.tight (l.start + n * l.step) false) l.words;
}
