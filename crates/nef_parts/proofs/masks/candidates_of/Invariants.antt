use Rattle.nef_parts.specs.steps.Tables.{AreCandidates}
use Rattle.nef_parts.proofs.masks.candidates_of.Given as goal

abbrev pub invariant-loop-place : goal.invariant-loop-place
invariant-loop-place l = AreCandidates l.place l.tight l.rows l.candidates.items
