use Rattle.std.proofs.Common.{◌≡◌, ℕ, ◌<◌, length, slice_index_or}
use Rattle.nef_parts.specs.declared.masks.VertexMask.{VertexMask}
use Rattle.nef_parts.specs.steps.Agreeing.{SomeAgrees}
use Rattle.nef_parts.proofs.agreeing.all_agree.Given as goal

abbrev pub invariant-loop-v : goal.invariant-loop-v
invariant-loop-v l = record {
  hints : length l.hints ≡ length l.fn.hints;
  agree : (v : ℕ) (d : VertexMask) → v < l.v → (i : ℕ) → i < l.r → SomeAgrees (slice_index_or l.masks v d) l.begin i;
}
