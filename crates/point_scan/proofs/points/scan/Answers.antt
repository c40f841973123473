use Rattle.std.proofs.Common.{◌≡◌, ◌≤◌, ◌<◌, ◌++◌, length, refl, sym, ap, ◌∙◌, subst, arith, length-append}
use Rattle.lattice_theory.specs.Grid.{Follows}
use Rattle.lattice_core.specs.declared.limits.TheConstants.{MOST_POINTS}
use Rattle.lattice_core.specs.Dimensions.{dimension_of}
use Rattle.facet_theory.specs.Solid.{AreSolid}
use Rattle.region_walk.specs.Regions.{IsInRegion}
use Rattle.region_walk.specs.Walks.{first_point, last_point, run_points}
use Rattle.point_scan.specs.Dilates.{AreDilatePoints}
use Rattle.point_scan.proofs.DilatePoints.{lattice_from_dilate}
use Rattle.point_scan.proofs.Scans.{IsScanned, none_found, started, advanced, fewer_left, finished, has_all, at_least}
use Rattle.point_scan.proofs.points.scan.Goals as goal
use Rattle.point_scan.proofs.points.scan.Goals.{In_ok-region, In-Some, After-count, After-advance}

-- the vertices are solid
solid : (c : In_ok-region) → AreSolid (dimension_of c.args.vertices.now) c.args.vertices.now
solid c =
    let least = c.in_ok-region.ensures.sound.least in
    let dimension = c.in_ok-region.ensures.dimension in
    record {
      coordinates = omega (arith, least, dimension);
      dimension = c.requires.vertices.sized.are_points.one_dimension;
      solid = c.requires.vertices.solid;
    }

pub returns-in_default-clause-points : goal.returns-in_default-clause-points
returns-in_default-clause-points c =
    let n = dimension_of c.args.vertices.now in
    let points = c.args.vertices.now in
    lattice_from_dilate n points (solid (goal.at.returns-in_default-clause-points c).In_ok-region) c.new-points.result.items
    (subst (AreDilatePoints n points 1) (sym c.new-points.ensures.items)
    (none_found n points 1 c.args.facets.now c.requires.facets c.in_ok-region.region c.in_ok-region.ensures c.in_default.ensures.none))

pub loop-told-init : goal.loop-told-init
loop-told-init c =
    let n = dimension_of c.args.vertices.now in
    let points = c.args.vertices.now in
    let none = c.new-points.ensures.items in
    record {
      scanned = subst (IsScanned n points 1 c.args.facets.now c.in-Some.walk) (sym none)
          (started n points 1 c.args.facets.now c.requires.facets c.in_ok-region.region c.in_ok-region.ensures c.in-Some.walk
          c.in-Some.ensures.region c.in-Some.ensures.run c.in-Some.ensures.first);
      few = omega (arith, ap length none);
    }

pub count-requires : goal.count-requires
count-requires c = c.loop-told.invariant.scanned.at

pub overflow_sub-len : goal.overflow_sub-len
overflow_sub-len c = let few = c.loop-told.invariant.few in let len = c.len.ensures in omega arith

pub returns-then-count-len-clause-refused : goal.returns-then-count-len-clause-refused
returns-then-count-len-clause-refused c =
    let n = dimension_of c.args.vertices.now in
    let points = c.args.vertices.now in
    let found = c.loop-told.points.items in
    let all = has_all n points 1 c.args.facets.now c.requires.facets c.loop-told.walk found c.loop-told.invariant.scanned in
    let more = at_least n points 1 c.args.facets.now c.requires.facets c.loop-told.walk found c.loop-told.invariant.scanned all in
    let longer = length-append found (run_points c.loop-told.walk) in
    let count = c.count.ensures.points in
    let len = c.len.ensures in
    let few = c.loop-told.invariant.few in
    let beyond : MOST_POINTS < length all.lattice = omega arith in (
      refl,
      refl,
      record {
        lattice = all.lattice;
        are_lattice_points = lattice_from_dilate n points (solid (goal.at.returns-then-count-len-clause-refused c).In_ok-region) all.lattice
            all.are_dilate_points;
        more = beyond;
      },
    )

pub push_run-requires : goal.push_run-requires
push_run-requires c = c.loop-told.invariant.scanned.at

pub advance-requires : goal.advance-requires
advance-requires c = c.loop-told.invariant.scanned.at

-- the points after the run
pushed : (c : After-advance) → c.push_run.new.points.items ≡ c.loop-told.points.items ++ run_points c.loop-told.walk
pushed c = c.in_ok-push_run.ensures

pub returns-then-not-advance-clause-points : goal.returns-then-not-advance-clause-points
returns-then-not-advance-clause-points c =
    let n = dimension_of c.args.vertices.now in
    let points = c.args.vertices.now in
    let w = c.loop-told.walk in
    let at = (goal.at.returns-then-not-advance-clause-points c).After-advance in
    let none = subst (Follows (IsInRegion w.region) (last_point w) (first_point c.advance.new.self)) c.if-not-advance.true c.advance.ensures.next in
    lattice_from_dilate n points (solid (goal.at.returns-then-not-advance-clause-points c).In_ok-region) c.push_run.new.points.items
    (subst (AreDilatePoints n points 1) (sym (pushed at))
    (finished n points 1 c.args.facets.now c.requires.facets w c.loop-told.points.items c.loop-told.invariant.scanned
    (first_point c.advance.new.self) none))

-- and their number
few_more : (c : After-advance) → length c.push_run.new.points.items ≤ MOST_POINTS
few_more c =
    let longer = ap length (pushed c) ∙ length-append c.loop-told.points.items (run_points c.loop-told.walk) in
    let count = c.count.ensures.points in
    let len = c.len.ensures in
    let few = c.loop-told.invariant.few in
    let test = c.if-count-len.false in
    omega arith

pub returns-then-not-advance-clause-few : goal.returns-then-not-advance-clause-few
returns-then-not-advance-clause-few c = few_more (goal.at.returns-then-not-advance-clause-few c).After-advance

pub loop-told-smaller : goal.loop-told-smaller
loop-told-smaller c =
    let n = dimension_of c.args.vertices.now in
    let w = c.loop-told.walk in
    let next = subst (Follows (IsInRegion w.region) (last_point w) (first_point c.advance.new.self)) c.if-not-advance.false c.advance.ensures.next in
    fewer_left n c.args.vertices.now 1 c.args.facets.now c.requires.facets w c.loop-told.points.items c.loop-told.invariant.scanned
    c.advance.new.self c.advance.ensures.region next

pub loop-told-preserved : goal.loop-told-preserved
loop-told-preserved c =
    let n = dimension_of c.args.vertices.now in
    let points = c.args.vertices.now in
    let w = c.loop-told.walk in
    let at = (goal.at.loop-told-preserved c).After-advance in
    let next = subst (Follows (IsInRegion w.region) (last_point w) (first_point c.advance.new.self)) c.if-not-advance.false c.advance.ensures.next in
    record {
      scanned = subst (IsScanned n points 1 c.args.facets.now c.advance.new.self) (sym (pushed at))
          (advanced n points 1 c.args.facets.now c.requires.facets w c.loop-told.points.items c.loop-told.invariant.scanned c.advance.new.self
          (c.advance.ensures.run c.if-not-advance.false) c.advance.ensures.region next);
      few = few_more at;
    }
