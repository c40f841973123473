use mir.Val.{to_z}
use Rattle.std.specs.Prelude.{ℤ, pos, ◌+ℤ◌, ◌-ℤ◌, ◌≤ℤ◌, ◌^◌, ◌≤◌}
use Rattle.std.proofs.Common.{◌≡◌, ◌++◌, ◌∷◌, [], ◌∙◌, Bool, List, length, w64, refl, sym, ap, subst, arith, length-append}
use Rattle.std.proofs.lemmas.Int.{ints}
use Rattle.lattice_theory.specs.Grid.{natural_part}
use Rattle.lattice_theory.specs.Size.{absolute_sum}
use Rattle.region_walk.specs.Regions.{levels_of}
use Rattle.region_walk.specs.Walks.{run_from}
use Rattle.region_walk.proofs.Runs.{least_small, run_count, length-run_from}
use Rattle.point_scan.specs.Visits.{Visited, none, one_more}
use Rattle.point_scan.proofs.RunPoints.{run_none, run_more, run_whole, run_split}
use Rattle.point_scan.proofs.visits.visit_run.Goals as goal
use Rattle.point_scan.proofs.visits.visit_run.Goals.{After-point-1}
use Rattle.point_scan.proofs.visits.visit_run.Given.{Over}

pub loop-init : goal.loop-init
loop-init g c =
    let w = c.args.walk.now in
    let low = c.low-last.ensures in
    let v = c.args.visitor.now in
    record {
      last = omega (arith, ints);
      dimension = refl;
      visited = subst (λ xs. Visited g.V.Visitor.visits v xs v) (sym (run_none w.beginning.entries.items w.run.low)) none;
    }

-- the point
point_is : (g : Over) (c : After-point-1 g) → c.extended-point.result ≡ c.args.walk.now.beginning.entries.items ++ to_z w64 c.loop.last-bits ∷ []
point_is g c = c.extended-point.ensures ∙ ap (λ (xs : List ℤ). xs ++ to_z w64 c.loop.last-bits ∷ []) c.beginning.ensures

pub visit-requires-clause-dimension : goal.visit-requires-clause-dimension
visit-requires-clause-dimension g c =
    let w = c.args.walk.now in
    let p = w.beginning.entries.items in
    let point = ap length (point_is g c) ∙ length-append p (to_z w64 c.loop.last-bits ∷ []) in
    let coordinates = c.requires.run.run.coordinates in
    let same : length c.extended-point.result ≡ length w.region.low = omega arith in
    same ∙ sym c.requires.dimension ∙ sym c.loop.invariant.dimension

pub visit-requires-clause-small : goal.visit-requires-clause-small
visit-requires-clause-small g c =
    let w = c.args.walk.now in
    let r = w.region in
    let p = w.beginning.entries.items in
    let v = to_z w64 c.loop.last-bits in
    let run = c.requires.run.run in
    let count = run_count r.low r.high (levels_of r) c.requires.run.sound p w.run.low w.run.high run in
    let points = c.count-end.ensures.points in
    let last = c.loop.invariant.last in
    let ordered = run.ordered in
    let test = c.loop-test.true in
    let above : w.run.low ≤ℤ v = omega (arith, ints, last) in
    let below : v ≤ℤ w.run.high = omega (arith, ints, last, count, points, ordered, test) in
    let small = c.requires.small (p ++ v ∷ []) (run.inside v (above, below)) in
    subst (λ (x : List ℤ). absolute_sum x ≤ 2 ^ 33) (sym (point_is g c)) small

pub returns-then-not-visit-clause-dimension : goal.returns-then-not-visit-clause-dimension
returns-then-not-visit-clause-dimension g c = c.visit.ensures.dimension ∙ c.loop.invariant.dimension

pub returns-then-not-visit-clause-visits : goal.returns-then-not-visit-clause-visits
returns-then-not-visit-clause-visits g c =
    let w = c.args.walk.now in
    let p = w.beginning.entries.items in
    let v = to_z w64 c.loop.last-bits in
    let m = natural_part (w.run.high +ℤ pos 1 -ℤ w.run.low) in
    let r = w.region in
    let count = run_count r.low r.high (levels_of r) c.requires.run.sound p w.run.low w.run.high c.requires.run.run in
    let points = c.count-end.ensures.points in
    let whole = length-run_from p w.run.low m in
    let test = c.loop-test.true in
    let split = run_split p w.run.low v c.loop.counter m c.loop.invariant.last (omega (arith, points, whole, test)) in
    let point = point_is g (goal.at.returns-then-not-visit-clause-visits g c).After-point-1 in
    record {
      front = run_from p w.run.low c.loop.counter;
      x = p ++ v ∷ [];
      rest = split.0;
      middle = c.loop.visitor;
      whole = split.1;
      visited = c.loop.invariant.visited;
      last = subst (λ (b : Bool). g.V.Visitor.visits c.loop.visitor (p ++ v ∷ []) b c.visit.new.self) c.if-not-visit.true
          (subst (λ (x : List ℤ). g.V.Visitor.visits c.loop.visitor x c.visit.result c.visit.new.self) point c.visit.ensures.visits);
    }

pub overflow_add-last : goal.overflow_add-last
overflow_add-last g c =
    let w = c.args.walk.now in
    let r = w.region in
    let low = least_small r.low r.high (levels_of r) c.requires.run.sound w.beginning.entries.items w.run.low w.run.high c.requires.run.run in
    let bound = c.count-end.ensures.bound in
    let last = c.loop.invariant.last in
    let test = c.loop-test.true in
    omega (arith, ints)

pub loop-preserved : goal.loop-preserved
loop-preserved g c =
    let w = c.args.walk.now in
    let r = w.region in
    let p = w.beginning.entries.items in
    let v = to_z w64 c.loop.last-bits in
    let low = least_small r.low r.high (levels_of r) c.requires.run.sound p w.run.low w.run.high c.requires.run.run in
    let bound = c.count-end.ensures.bound in
    let last = c.loop.invariant.last in
    let test = c.loop-test.true in
    let point = point_is g (goal.at.loop-preserved g c).After-point-1 in
    let took = subst (λ (b : Bool). g.V.Visitor.visits c.loop.visitor (p ++ v ∷ []) b c.visit.new.self) c.if-not-visit.false
    (subst (λ (x : List ℤ). g.V.Visitor.visits c.loop.visitor x c.visit.result c.visit.new.self) point c.visit.ensures.visits) in
    record {
      last = omega (arith, ints);
      dimension = c.visit.ensures.dimension ∙ c.loop.invariant.dimension;
      visited = subst (λ xs. Visited g.V.Visitor.visits c.args.visitor.now xs c.visit.new.self) (sym (run_more p w.run.low v c.loop.counter last))
          (one_more (run_from p w.run.low c.loop.counter) (p ++ v ∷ []) c.loop.visitor c.visit.new.self c.loop.invariant.visited took);
    }

pub returns-clause-dimension : goal.returns-clause-dimension
returns-clause-dimension g c = c.loop.invariant.dimension

pub returns-clause-visits : goal.returns-clause-visits
returns-clause-visits g c =
    let w = c.args.walk.now in
    let p = w.beginning.entries.items in
    let points = c.count-end.ensures.points in
    let test = c.loop-test.false in
    let within = c.loop.auto.counter-end in
    let all : c.loop.counter ≡ c.count-end.result = omega arith in
    subst (λ xs. Visited g.V.Visitor.visits c.args.visitor.now xs c.loop.visitor)
    (run_whole p w.run.low c.loop.counter (natural_part (w.run.high +ℤ pos 1 -ℤ w.run.low)) (all ∙ points)) c.loop.invariant.visited
