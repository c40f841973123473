use Rattle.std.proofs.Common.{◌≡◌, length}
use Rattle.base_counts.specs.Tops.{IsTopOf}
use Rattle.base_counts.proofs.base.base_into.Given as goal

abbrev pub invariant-loop-i : goal.invariant-loop-i
invariant-loop-i l = record {
  whole : length l.base ≡ length l.initial.base;
  top : IsTopOf l.vectors l.x l.i l.base;
}
