use mir.Val.{to_z}
use Rattle.std.specs.Prelude.{ℤ, pos, ◌+ℤ◌, ◌-ℤ◌}
use Rattle.std.proofs.Common.{◌≡◌, ◌++◌, ◌∷◌, [], ◌∙◌, List, w64, sym, ap, arith, append-nil}
use Rattle.std.proofs.lemmas.Int.{ints}
use Rattle.std.proofs.lemmas.List.{append_assoc}
use Rattle.lattice_theory.specs.Grid.{natural_part}
use Rattle.region_walk.specs.Regions.{levels_of}
use Rattle.region_walk.specs.Walks.{run_from}
use Rattle.region_walk.proofs.Runs.{least_small}
use Rattle.point_scan.proofs.RunPoints.{run_none, run_more, run_whole}
use Rattle.point_scan.proofs.runs.push_run.Goals as goal

pub loop-init : goal.loop-init
loop-init c =
    let w = c.args.walk.now in
    let low = c.low-last.ensures in
    record {
      last = omega (arith, ints);
      pushed = sym (ap (λ (r : List (List ℤ)). c.args.points.now.items ++ r) (run_none w.beginning.entries.items w.run.low)
          ∙ append-nil c.args.points.now.items);
    }

pub overflow_add-last : goal.overflow_add-last
overflow_add-last c =
    let w = c.args.walk.now in
    let r = w.region in
    let low = least_small r.low r.high (levels_of r) c.requires.sound w.beginning.entries.items w.run.low w.run.high c.requires.run in
    let bound = c.count-end.ensures.bound in
    let last = c.loop.invariant.last in
    omega (arith, ints)

pub loop-preserved : goal.loop-preserved
loop-preserved c =
    let w = c.args.walk.now in
    let r = w.region in
    let p = w.beginning.entries.items in
    let v = to_z w64 c.loop.last-bits in
    let low = least_small r.low r.high (levels_of r) c.requires.sound p w.run.low w.run.high c.requires.run in
    let bound = c.count-end.ensures.bound in
    let last = c.loop.invariant.last in
    let one : c.extended.result ≡ p ++ v ∷ [] = c.extended.ensures ∙ ap (λ (xs : List ℤ). xs ++ v ∷ []) c.beginning.ensures in
    record {
      last = omega (arith, ints);
      pushed = c.in_ok-push.ensures.items ∙ ap (λ (xs : List (List ℤ)). xs ++ c.extended.result ∷ []) c.loop.invariant.pushed
          ∙ append_assoc c.args.points.now.items (run_from p w.run.low c.loop.counter) (c.extended.result ∷ [])
          ∙ ap (λ (x : List ℤ). c.args.points.now.items ++ (run_from p w.run.low c.loop.counter ++ x ∷ [])) one
          ∙ ap (λ (xs : List (List ℤ)). c.args.points.now.items ++ xs) (sym (run_more p w.run.low v c.loop.counter last));
    }

pub returns : goal.returns
returns c =
    let w = c.args.walk.now in
    let p = w.beginning.entries.items in
    let points = c.count-end.ensures.points in
    let all : c.loop.counter ≡ c.count-end.result = omega arith in
    c.loop.invariant.pushed ∙ ap (λ (xs : List (List ℤ)). c.args.points.now.items ++ xs)
    (run_whole p w.run.low c.loop.counter (natural_part (w.run.high +ℤ pos 1 -ℤ w.run.low)) (all ∙ points))
