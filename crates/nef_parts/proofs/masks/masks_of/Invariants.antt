use Rattle.nef_parts.specs.steps.Tables.{AreMasks}
use Rattle.nef_parts.proofs.masks.masks_of.Given as goal

abbrev pub invariant-loop-v : goal.invariant-loop-v
invariant-loop-v l = AreMasks l.v l.vertices l.normals l.points l.masks.items
