use Rattle.std.proofs.Common.{◌≡◌, length}
use Rattle.face_theory.specs.Pairings.{is_zero}
use Rattle.incidence.specs.Incidences.{HasExactly}
use Rattle.cayley_theory.specs.Bases.{pairing_with}
use Rattle.base_counts.proofs.base.tight_into.Given as goal

abbrev pub invariant-loop-i : goal.invariant-loop-i
invariant-loop-i l = record {
  whole : length l.words ≡ length l.initial.words;
  bits : HasExactly l.i (λ i. is_zero (pairing_with l.vectors l.x l.base i)) l.words;
}
