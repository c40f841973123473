use Rattle.std.proofs.Common.{ℕ, ◌<◌, slice_index_or}
use Rattle.nef_parts.specs.declared.masks.Candidate.{Candidate}
use Rattle.nef_parts.specs.steps.Agreeing.{RowsAgree}
use Rattle.nef_parts.proofs.agreeing.agreeing.Given as goal

abbrev pub invariant-loop-j : goal.invariant-loop-j
invariant-loop-j l = (k : ℕ) (d : Candidate) → k < l.j → RowsAgree l.tight l.own l.told (slice_index_or l.candidates k d).tight → ⊥
