use Rattle.nef_parts.specs.steps.Rows.{IsTightRow, IsLowRow}
use Rattle.nef_parts.proofs.pairings.pairings_of.Given as goal

abbrev pub invariant-loop-e : goal.invariant-loop-e
invariant-loop-e l = record {
  tight : IsTightRow l.e l.normals l.x l.tight;
  low : IsLowRow l.e l.normals l.x l.low;
}
