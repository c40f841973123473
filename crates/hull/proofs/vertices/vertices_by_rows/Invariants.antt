use Rattle.std.proofs.Common.{take}
use Rattle.lattice_core.specs.Dimensions.{dimension_of}
use Rattle.hull.specs.steps.Tight.{HasVertices}
use Rattle.hull.proofs.CandidatePoints.{points_of}
use Rattle.hull.proofs.vertices.vertices_by_rows.Given as goal

abbrev pub invariant-loop-c : goal.invariant-loop-c
invariant-loop-c l = HasVertices (dimension_of l.points) l.points (take l.c-index (points_of l.c-items)) l.vertices.items
