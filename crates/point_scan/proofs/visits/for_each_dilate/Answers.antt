use Rattle.std.proofs.Common.{◌++◌, ◌∙◌, [], Bool, refl, sym, subst}
use Rattle.lattice_theory.specs.Grid.{Follows}
use Rattle.lattice_core.specs.Dimensions.{dimension_of}
use Rattle.region_walk.specs.Regions.{IsInRegion}
use Rattle.region_walk.specs.Walks.{first_point, last_point, run_points}
use Rattle.point_scan.specs.Visits.{Visits, none}
use Rattle.point_scan.proofs.Scans.{none_found, started, advanced, fewer_left, finished, has_all}
use Rattle.point_scan.proofs.Visiting.{visited_append, stops_later}
use Rattle.point_scan.proofs.visits.for_each_dilate.Goals as goal

pub returns-in_default-clause-visits : goal.returns-in_default-clause-visits
returns-in_default-clause-visits g c =
    let points = c.args.vertices.now in
    record {
      lattice = [];
      are_dilate_points = none_found (dimension_of points) points c.args.dilate c.args.facets.now c.requires.facets c.in_ok-region.region
          c.in_ok-region.ensures c.in_default.ensures.none;
      taken = none;
    }

pub loop-walk-init : goal.loop-walk-init
loop-walk-init g c =
    let points = c.args.vertices.now in
    record {
      found = [];
      scanned = started (dimension_of points) points c.args.dilate c.args.facets.now c.requires.facets c.in_ok-region.region
          c.in_ok-region.ensures c.in-Some.walk c.in-Some.ensures.region c.in-Some.ensures.run c.in-Some.ensures.first;
      dimension = refl;
      visited = none;
    }

pub visit_run-requires-clause-run : goal.visit_run-requires-clause-run
visit_run-requires-clause-run g c = c.loop-walk.invariant.scanned.at

pub visit_run-requires-clause-small : goal.visit_run-requires-clause-small
visit_run-requires-clause-small g c = c.loop-walk.invariant.scanned.holds.small

pub visit_run-requires-clause-dimension : goal.visit_run-requires-clause-dimension
visit_run-requires-clause-dimension g c =
    c.loop-walk.invariant.dimension ∙ c.requires.dimension ∙ sym c.loop-walk.invariant.scanned.holds.dimension

pub returns-then-not-visit_run-clause-visits : goal.returns-then-not-visit_run-clause-visits
returns-then-not-visit_run-clause-visits g c =
    let points = c.args.vertices.now in
    let w = c.loop-walk.walk in
    let i = c.loop-walk.invariant in
    let all = has_all (dimension_of points) points c.args.dilate c.args.facets.now c.requires.facets w i.found i.scanned in
    let stops = subst (λ (b : Bool). Visits g.V.Visitor.visits c.loop-walk.visitor (run_points w) b c.visit_run.new.visitor) c.if-not-visit_run.true
    c.visit_run.ensures.visits in
    record {
      lattice = all.lattice;
      are_dilate_points = all.are_dilate_points;
      taken = stops_later g.V.Visitor.visits c.args.visitor.now c.loop-walk.visitor c.visit_run.new.visitor i.found (run_points w) all.rest
          all.lattice i.visited stops all.whole;
    }

pub returns-then-not-visit_run-clause-dimension : goal.returns-then-not-visit_run-clause-dimension
returns-then-not-visit_run-clause-dimension g c = c.visit_run.ensures.dimension ∙ c.loop-walk.invariant.dimension

pub advance-requires : goal.advance-requires
advance-requires g c = c.loop-walk.invariant.scanned.at

pub returns-then-not-advance-clause-visits : goal.returns-then-not-advance-clause-visits
returns-then-not-advance-clause-visits g c =
    let points = c.args.vertices.now in
    let w = c.loop-walk.walk in
    let i = c.loop-walk.invariant in
    let none_left = subst (Follows (IsInRegion w.region) (last_point w) (first_point c.advance.new.self)) c.if-not-advance.true c.advance.ensures.next in
    let took = subst (λ (b : Bool). Visits g.V.Visitor.visits c.loop-walk.visitor (run_points w) b c.visit_run.new.visitor) c.if-not-visit_run.false
    c.visit_run.ensures.visits in
    record {
      lattice = i.found ++ run_points w;
      are_dilate_points = finished (dimension_of points) points c.args.dilate c.args.facets.now c.requires.facets w i.found i.scanned
          (first_point c.advance.new.self) none_left;
      taken = visited_append g.V.Visitor.visits c.args.visitor.now c.loop-walk.visitor c.visit_run.new.visitor i.found (run_points w) i.visited took;
    }

pub returns-then-not-advance-clause-dimension : goal.returns-then-not-advance-clause-dimension
returns-then-not-advance-clause-dimension g c = c.visit_run.ensures.dimension ∙ c.loop-walk.invariant.dimension

pub loop-walk-smaller : goal.loop-walk-smaller
loop-walk-smaller g c =
    let points = c.args.vertices.now in
    let w = c.loop-walk.walk in
    let i = c.loop-walk.invariant in
    let next = subst (Follows (IsInRegion w.region) (last_point w) (first_point c.advance.new.self)) c.if-not-advance.false c.advance.ensures.next in
    fewer_left (dimension_of points) points c.args.dilate c.args.facets.now c.requires.facets w i.found i.scanned c.advance.new.self
    c.advance.ensures.region next

pub loop-walk-preserved : goal.loop-walk-preserved
loop-walk-preserved g c =
    let points = c.args.vertices.now in
    let w = c.loop-walk.walk in
    let i = c.loop-walk.invariant in
    let next = subst (Follows (IsInRegion w.region) (last_point w) (first_point c.advance.new.self)) c.if-not-advance.false c.advance.ensures.next in
    let took = subst (λ (b : Bool). Visits g.V.Visitor.visits c.loop-walk.visitor (run_points w) b c.visit_run.new.visitor) c.if-not-visit_run.false
    c.visit_run.ensures.visits in
    record {
      found = i.found ++ run_points w;
      scanned = advanced (dimension_of points) points c.args.dilate c.args.facets.now c.requires.facets w i.found i.scanned c.advance.new.self
          (c.advance.ensures.run c.if-not-advance.false) c.advance.ensures.region next;
      dimension = c.visit_run.ensures.dimension ∙ i.dimension;
      visited = visited_append g.V.Visitor.visits c.args.visitor.now c.loop-walk.visitor c.visit_run.new.visitor i.found (run_points w) i.visited took;
    }
