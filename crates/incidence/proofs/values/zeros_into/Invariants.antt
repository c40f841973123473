use Rattle.std.proofs.Common.{◌≡◌, length}
use Rattle.lattice_theory.specs.Affine.{value}
use Rattle.face_theory.specs.Pairings.{is_zero, function_at}
use Rattle.incidence.specs.Incidences.{HasExactly}
use Rattle.incidence.proofs.values.zeros_into.Given as goal

abbrev pub invariant-loop-f : goal.invariant-loop-f
invariant-loop-f l = record {
  whole : length l.words ≡ length l.initial.words;
  bits : HasExactly l.f (λ f. is_zero (value (function_at l.functions f) l.p)) l.words;
}
