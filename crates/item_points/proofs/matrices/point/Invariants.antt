use Rattle.std.proofs.Common.{◌≡◌, map}
use Rattle.std.specs.List.{range_with_len}
use Rattle.item_points.specs.Matrices.{coordinate_of}
use Rattle.item_points.proofs.matrices.point.Given as goal

abbrev pub invariant-loop-place : goal.invariant-loop-place
invariant-loop-place l = l.coordinates.items ≡ map (coordinate_of l.matrix.lines l.matrix.columns l.matrix.entries.items l.index)
    (range_with_len 0 l.place)
