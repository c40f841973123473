use Rattle.std.proofs.Common.{◌≡◌, length}
use Rattle.incidence.specs.Incidences.{HasExactly}
use Rattle.cone_counts.specs.CountSteps.{other_part}
use Rattle.cone_counts.proofs.free.put_others.Given as goal

abbrev pub invariant-loop-i : goal.invariant-loop-i
invariant-loop-i l = record {
  whole : length l.words ≡ length l.initial.words;
  bits : HasExactly l.i (other_part l.vectors l.part) l.words;
}
