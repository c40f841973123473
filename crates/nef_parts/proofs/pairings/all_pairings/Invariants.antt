use Rattle.nef_parts.specs.steps.Rows.{ArePairings}
use Rattle.nef_parts.proofs.pairings.all_pairings.Given as goal

abbrev pub invariant-loop-p : goal.invariant-loop-p
invariant-loop-p l = ArePairings l.p l.normals l.points l.rows.items
