use Rattle.lattice_core.specs.Dimensions.{dimension_of}
use Rattle.hull.proofs.FacetBounds.{facets_within}
use Rattle.hull.proofs.facets.all_facets.Goals as goal

pub returns-clause-bounded : goal.returns-clause-bounded
returns-clause-bounded c = facets_within (dimension_of c.args.points.now) c.args.points.now c.in_ok-_corners.facets.items
    c.requires.points.one_dimension c.in_ok-width.ensures.solid.solid c.in_ok-_corners.ensures.whole
