use Rattle.lattice_core.specs.Dimensions.{dimension_of}
use Rattle.hull.proofs.VertexSearch.{vertices_dimension, vertices_listed}
use Rattle.hull.proofs.vertices.all_vertices.Goals as goal

pub ascending_points-requires : goal.ascending_points-requires
ascending_points-requires c =
    let n = dimension_of c.args.points.now in (
      n,
      vertices_dimension n c.args.points.now c.in_ok-vertices.vertices.items c.requires.points.sized.are_points.one_dimension
          c.in_ok-vertices.ensures,
    )

pub returns : goal.returns
returns c =
    let n = dimension_of c.args.points.now in
    vertices_listed n c.args.points.now c.in_ok-vertices.vertices.items c.ascending_points.new.points.items c.in_ok-vertices.ensures
    c.ascending_points.ensures.ascends c.ascending_points.ensures.members
