use Rattle.std.proofs.Common.{◌≡◌}
use Rattle.weight_enum.specs.steps.Places.{KeepsPlace}
use Rattle.weight_enum.proofs.search.fill.Given as goal

abbrev pub invariant-loop-degree : goal.invariant-loop-degree
invariant-loop-degree l = record {
  next : l.listed.next ≡ l.degree;
  kept : KeepsPlace l.dim l.high l.initial.listed l.listed;
}
