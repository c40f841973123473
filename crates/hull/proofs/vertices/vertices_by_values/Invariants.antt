use Rattle.std.proofs.Common.{take}
use Rattle.lattice_core.specs.Dimensions.{dimension_of}
use Rattle.hull.specs.steps.Tight.{HasVertices}
use Rattle.hull.proofs.vertices.vertices_by_values.Given as goal

abbrev pub invariant-loop-v : goal.invariant-loop-v
invariant-loop-v l = HasVertices (dimension_of l.points) l.points (take l.v-index l.points) l.vertices.items
