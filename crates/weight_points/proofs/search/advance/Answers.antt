use Rattle.std.proofs.Common.{◌≡◌, ◌∙◌, ℕ, ◌<◌, ◌-◌, ◌+◌, ap, refl, arith, length}
use Rattle.std.specs.Prelude.{true, false}
use Rattle.std.proofs.lemmas.List.{get_or_past}
use Rattle.weight_points.specs.steps.Rows.{systems_of}
use Rattle.weight_points.specs.steps.Search.{exponent, Completes}
use Rattle.weight_points.proofs.Weighing.{systems_returning}
use Rattle.weight_points.proofs.Advancing.{none_at_end, none_follows, agrees_before, found_next, none_before, zeros_from}
use Rattle.weight_points.proofs.search.advance.Goals as goal

pub loop-place-init : goal.loop-place-init
loop-place-init c = record {
  systems = refl;
  ready = c.requires;
  zeros = λ i h. get_or_past c.args.entries.now i 0 h;
  agrees = λ i h. refl;
  none = none_at_end (systems_of c.args.rows.now) c.args.entries.now c.requires.columns;
}

pub returns-then-complete-clause-systems : goal.returns-then-complete-clause-systems
returns-then-complete-clause-systems c =
    c.complete.ensures.systems ∙ (ap systems_of c.clear-passed.ensures.rows ∙ systems_returning _ _ c.loop-place.rows
    ∙ c.loop-place.invariant.systems)

pub returns-then-complete-clause-follows : goal.returns-then-complete-clause-follows
returns-then-complete-clause-follows c =
    let systems = systems_of c.args.rows.now in
    let old = c.args.entries.now in
    let entries = c.loop-place.entries in
    let a = c.clear-passed.new.entries in
    let m = c.loop-place.place in
    let place = m - 1 in
    let i = c.loop-place.invariant in
    let next : m ≡ place + 1 = omega arith in
    let within : place < length old = omega arith in
    let from_is : c.clear-passed.result + 1 ≡ exponent entries place + 1 = ap (λ (n : ℕ). n + 1) c.clear-passed.ensures.value in
    let systems_are : systems_of c.clear-passed.new.rows ≡ systems = ap systems_of c.clear-passed.ensures.rows
    ∙ systems_returning _ _ c.loop-place.rows ∙ i.systems in
    let found : Completes systems place (c.clear-passed.result + 1) a c.complete.new.entries true =
    rw systems_are at c.if-complete.ensures.completes in
    found_next systems old entries a m place (c.clear-passed.result + 1) next c.requires.columns within i.agrees
    c.clear-passed.ensures.entries from_is i.none c.complete.new.entries found

pub loop-place-preserved : goal.loop-place-preserved
loop-place-preserved c =
    let systems = systems_of c.args.rows.now in
    let old = c.args.entries.now in
    let entries = c.loop-place.entries in
    let a = c.clear-passed.new.entries in
    let m = c.loop-place.place in
    let place = m - 1 in
    let from = c.clear-passed.result + 1 in
    let i = c.loop-place.invariant in
    let next : m ≡ place + 1 = omega arith in
    let within : place < length old = omega arith in
    let from_is : from ≡ exponent entries place + 1 = ap (λ (n : ℕ). n + 1) c.clear-passed.ensures.value in
    let systems_are : systems_of c.clear-passed.new.rows ≡ systems = ap systems_of c.clear-passed.ensures.rows
    ∙ systems_returning _ _ c.loop-place.rows ∙ i.systems in
    let found : Completes systems place from a c.complete.new.entries false = rw systems_are at c.if-complete.ensures.completes in
    let kept = found.0 in
    let same : length entries ≡ length old = omega arith in
    record {
      systems = c.complete.ensures.systems ∙ systems_are;
      ready = c.complete.ensures.ready;
      zeros = rw kept (zeros_from systems old entries a m place from next c.requires.columns within i.agrees c.clear-passed.ensures.entries
          from_is i.none same i.zeros);
      agrees = rw kept (agrees_before systems old entries a m place from next c.requires.columns within i.agrees
          c.clear-passed.ensures.entries from_is i.none);
      none = none_before systems old entries a m place from next c.requires.columns within i.agrees c.clear-passed.ensures.entries from_is
          i.none found.1;
    }

pub returns-clause-follows : goal.returns-clause-follows
returns-clause-follows c =
    none_follows (systems_of c.args.rows.now) c.args.entries.now
    (λ b solves h. c.loop-place.invariant.none b solves (λ i l. absurd (omega arith)) h)
