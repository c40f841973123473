use Rattle.std.proofs.Common.{◌∙◌}
use Rattle.lattice_core.specs.Dimensions.{dimension_of}
use Rattle.lattice_theory.proofs.Members.{empty, all_from_each}
use Rattle.facet_theory.specs.Solid.{AreSolid}
use Rattle.point_scan.proofs.AbsoluteSums.{low_small, high_small, corner_in_box, position_small}
use Rattle.point_scan.proofs.DilatePoints.{dilate_in_box}
use Rattle.point_scan.proofs.dilates.box_region.Goals as goal

pub new-requires-clause-small_low : goal.new-requires-clause-small_low
new-requires-clause-small_low c =
    let points = c.args.vertices.now in
    low_small (dimension_of points) points c.args.dilate c.corners_of-corners.result.low c.corners_of-corners.result.high c.requires.dilate
    c.requires.vertices.sized.within c.corners_of-corners.ensures.corners

pub new-requires-clause-small_high : goal.new-requires-clause-small_high
new-requires-clause-small_high c =
    let points = c.args.vertices.now in
    high_small (dimension_of points) points c.args.dilate c.corners_of-corners.result.low c.corners_of-corners.result.high c.requires.dilate
    c.requires.vertices.sized.within c.corners_of-corners.ensures.corners

pub new-requires-clause-inside : goal.new-requires-clause-inside
new-requires-clause-inside c =
    let points = c.args.vertices.now in
    corner_in_box (dimension_of points) points c.args.dilate c.corners_of-corners.result.low c.corners_of-corners.result.high
    c.corners_of-corners.ensures.corners

pub returns : goal.returns
returns c =
    let points = c.args.vertices.now in
    let low = c.corners_of-corners.result.low in
    let high = c.corners_of-corners.result.high in
    let corners = c.corners_of-corners.ensures.corners in
    let solid : AreSolid (dimension_of points) points = record {
      coordinates = c.corners_of-corners.ensures.least;
      dimension = c.requires.vertices.sized.are_points.one_dimension;
      solid = c.requires.vertices.solid;
    } in
    record {
      sound = c.in_ok-region.ensures.sound;
      dimension = c.in_ok-region.ensures.dimension ∙ corners.low_dimension;
      small = λ x h. position_small (dimension_of points) points c.args.dilate low high x c.requires.dilate c.requires.vertices.sized.within corners
          ((c.in_ok-region.ensures.members x).0 h);
      inside = λ x h. all_from_each empty;
      all = λ x d. (c.in_ok-region.ensures.members x).1 (dilate_in_box (dimension_of points) points solid c.args.dilate low high corners x d);
    }
