use Rattle.std.proofs.Common.{◌≡◌, map}
use Rattle.std.specs.List.{range_with_len}
use Rattle.item_points.specs.Matrices.{point_at}
use Rattle.item_points.proofs.matrices.points.Given as goal

abbrev pub invariant-loop-index : goal.invariant-loop-index
invariant-loop-index l = l.points.items ≡ map (point_at l.matrix.lines l.matrix.columns l.matrix.entries.items) (range_with_len 0 l.index)
