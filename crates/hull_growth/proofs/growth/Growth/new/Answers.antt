use Rattle.lattice_core.specs.Dimensions.{dimension_of}
use Rattle.hull_growth.proofs.Small.{points_bound, facets_constants}
use Rattle.hull_growth.proofs.growth.Growth.new.Goals as goal

pub rows_of-requires-clause-small : goal.rows_of-requires-clause-small
rows_of-requires-clause-small c = rw c.deref.ensures.value
    (points_bound (dimension_of c.args.corners.items) c.args.corners.items c.requires.solid.sized.are_points.one_dimension
    c.requires.solid.sized.within)

pub rows_of-requires-clause-constants : goal.rows_of-requires-clause-constants
rows_of-requires-clause-constants c = rw c.deref-2.ensures.value
    (facets_constants (dimension_of c.args.corners.items) c.args.corners.items c.args.facets.items
    c.requires.solid.sized.are_points.one_dimension c.requires.solid.solid c.requires.solid.sized.within c.requires.hull.members)
