use Rattle.std.proofs.Common.{◌≡◌, ◌∙◌, ℕ, ◌+◌, List, ap, arith, map, pos}
use Rattle.lattice_core.specs.Weights.{weighted_all}
use Rattle.weight_points.proofs.Walks.{begins, more_given, counted_all, counted_more}
use Rattle.weight_points.specs.Listing.{given_of}
use Rattle.lattice_core.specs.Weights.{Weighted}
use Rattle.std.specs.Prelude.{false}
use Rattle.weight_points.proofs.monomials.count_to.Goals as goal

pub loop-count-init : goal.loop-count-init
loop-count-init c =
    let start = begins (weighted_all c.args.systems.now) c.in_ok-rows.rows.items c.in_ok-entries.entries.items c.requires.formed
    c.requires.limits c.in_ok-rows.ensures.systems c.in_ok-rows.ensures.fresh c.in_ok-entries.ensures in
    record { systems = c.in_ok-rows.ensures.systems; ready = start.ready; given = start.given }

pub returns-then-not-step : goal.returns-then-not-step
returns-then-not-step c =
    let i = c.loop-count.invariant in
    counted_all (weighted_all c.args.systems.now) c.loop-count.rows.items c.loop-count.entries.items c.loop-count.count c.args.limit
    i.systems i.ready i.given (omega arith) c.if-not-step.ensures.follows

pub loop-count-preserved : goal.loop-count-preserved
loop-count-preserved c =
    let i = c.loop-count.invariant in
    let rows = c.loop-count.rows.items in
    let a = c.loop-count.entries.items in
    let new = c.step.new.entries.items in
    let one = more_given rows a i.ready new c.if-not-step.ensures.follows in
    record {
      systems = c.step.ensures.systems ∙ i.systems;
      ready = c.step.ensures.ready;
      given = ap (λ (s : List Weighted). given_of s (map pos new) false) c.step.ensures.systems ∙ (one ∙ ap (λ (n : ℕ). n + 1) i.given);
    }

pub returns : goal.returns
returns c =
    let i = c.loop-count.invariant in
    let end : c.loop-count.count ≡ c.args.limit + 1 = omega arith in
    counted_more (weighted_all c.args.systems.now) c.loop-count.rows.items c.loop-count.entries.items c.args.limit i.systems i.ready
    (i.given ∙ end)
