use Rattle.std.proofs.Common.{◌+◌, ◌≤◌, length, take}
use Rattle.hull.specs.steps.Kernels.{IsPrimitiveKernel}
use Rattle.hull.proofs.Vectors.{from}
use Rattle.hull.proofs.differences.kernel_of.Given as goal

abbrev pub invariant-loop-p : goal.invariant-loop-p
invariant-loop-p l = record {
  kernel : IsPrimitiveKernel (length l.first) (from l.first (take l.p-index l.p-items)) l.kernel.items;
  count : length l.first ≤ length l.kernel.items + l.p-index;
}
