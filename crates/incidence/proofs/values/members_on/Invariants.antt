use Rattle.std.proofs.Common.{◌≡◌, length}
use Rattle.lattice_theory.specs.Affine.{value}
use Rattle.face_theory.specs.Pairings.{is_zero, vector_at}
use Rattle.incidence.specs.Incidences.{HasExactly}
use Rattle.incidence.proofs.values.members_on.Given as goal

abbrev pub invariant-loop-m : goal.invariant-loop-m
invariant-loop-m l = record {
  whole : length l.words ≡ 64;
  bits : HasExactly l.m (λ m. is_zero (value l.f (vector_at l.points m))) l.words;
}
