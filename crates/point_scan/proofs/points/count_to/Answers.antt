use Rattle.std.proofs.Common.{◌++◌, [], refl, subst, arith, length-append}
use Rattle.lattice_theory.specs.Grid.{Follows}
use Rattle.lattice_core.specs.Dimensions.{dimension_of}
use Rattle.region_walk.specs.Regions.{IsInRegion}
use Rattle.region_walk.specs.Walks.{first_point, last_point, run_points}
use Rattle.point_scan.proofs.Scans.{none_found, started, advanced, fewer_left, finished, has_all, at_least}
use Rattle.point_scan.proofs.points.count_to.Goals as goal
use Rattle.point_scan.proofs.points.count_to.Goals.{After-advance}

pub returns-in_default : goal.returns-in_default
returns-in_default c =
    let points = c.args.vertices.now in
    record {
      lattice = [];
      are_dilate_points = none_found (dimension_of points) points c.args.dilate c.args.facets.now c.requires.facets c.in_ok-region.region
          c.in_ok-region.ensures c.in_default.ensures.none;
      counted_is = omega arith;
    }

pub loop-count-init : goal.loop-count-init
loop-count-init c =
    let points = c.args.vertices.now in
    record {
      found = [];
      scanned = started (dimension_of points) points c.args.dilate c.args.facets.now c.requires.facets c.in_ok-region.region
          c.in_ok-region.ensures c.in-Some.walk c.in-Some.ensures.region c.in-Some.ensures.run c.in-Some.ensures.first;
      counted = refl;
      few = omega arith;
    }

pub count-count-requires : goal.count-count-requires
count-count-requires c = c.loop-count.invariant.scanned.at

pub overflow_add-count : goal.overflow_add-count
overflow_add-count c =
    let few = c.loop-count.invariant.few in
    let limit = c.requires.limit in
    let bound = c.count-count.ensures.bound in
    omega arith

pub returns-then-count-limit : goal.returns-then-count-limit
returns-then-count-limit c =
    let points = c.args.vertices.now in
    let i = c.loop-count.invariant in
    let all = has_all (dimension_of points) points c.args.dilate c.args.facets.now c.requires.facets c.loop-count.walk i.found i.scanned in
    let more = at_least (dimension_of points) points c.args.dilate c.args.facets.now c.requires.facets c.loop-count.walk i.found i.scanned all in
    let longer = length-append i.found (run_points c.loop-count.walk) in
    let counted = i.counted in
    let count = c.count-count.ensures.points in
    record { lattice = all.lattice; are_dilate_points = all.are_dilate_points; counted_is = omega arith }

pub advance-requires : goal.advance-requires
advance-requires c = c.loop-count.invariant.scanned.at

pub returns-then-not-advance : goal.returns-then-not-advance
returns-then-not-advance c =
    let points = c.args.vertices.now in
    let w = c.loop-count.walk in
    let i = c.loop-count.invariant in
    let none = subst (Follows (IsInRegion w.region) (last_point w) (first_point c.advance.new.self)) c.if-not-advance.true c.advance.ensures.next in
    let longer = length-append i.found (run_points w) in
    let counted = i.counted in
    let count = c.count-count.ensures.points in
    record {
      lattice = i.found ++ run_points w;
      are_dilate_points = finished (dimension_of points) points c.args.dilate c.args.facets.now c.requires.facets w i.found i.scanned
          (first_point c.advance.new.self) none;
      counted_is = omega arith;
    }

pub loop-count-smaller : goal.loop-count-smaller
loop-count-smaller c =
    let points = c.args.vertices.now in
    let w = c.loop-count.walk in
    let i = c.loop-count.invariant in
    let next = subst (Follows (IsInRegion w.region) (last_point w) (first_point c.advance.new.self)) c.if-not-advance.false c.advance.ensures.next in
    fewer_left (dimension_of points) points c.args.dilate c.args.facets.now c.requires.facets w i.found i.scanned c.advance.new.self
    c.advance.ensures.region next

pub loop-count-preserved : goal.loop-count-preserved
loop-count-preserved c =
    let points = c.args.vertices.now in
    let w = c.loop-count.walk in
    let i = c.loop-count.invariant in
    let next = subst (Follows (IsInRegion w.region) (last_point w) (first_point c.advance.new.self)) c.if-not-advance.false c.advance.ensures.next in
    let longer = length-append i.found (run_points w) in
    let counted = i.counted in
    let count = c.count-count.ensures.points in
    record {
      found = i.found ++ run_points w;
      scanned = advanced (dimension_of points) points c.args.dilate c.args.facets.now c.requires.facets w i.found i.scanned c.advance.new.self
          (c.advance.ensures.run c.if-not-advance.false) c.advance.ensures.region next;
      counted = omega arith;
      few = omega arith;
    }
