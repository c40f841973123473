use Rattle.std.proofs.Common.{◌≡◌, ◌∙◌, ℕ, ◌+◌, ◌-◌, ◌<◌, ◌≤◌, true, false, List, length, refl, sym, ap, subst, arith}
use Rattle.std.proofs.lemmas.List.{length-take-le}
use Rattle.walk_theory.specs.Walks.{NumbersLess}
use Rattle.nef_theory.specs.Nef.{part_at}
use Rattle.nef_parts.specs.steps.Nef.{IsNefIn}
use Rattle.nef_parts.specs.steps.Beginnings.{IsGrowth}
use Rattle.nef_parts.specs.steps.Completions.{AgreesOn, Completes}
use Rattle.nef_parts.proofs.SearchSteps.{same_front, growth_front}
use Rattle.nef_parts.proofs.Completions.{none_at_end, found_next, none_before}
use Rattle.nef_parts.proofs.search.advance.Goals as goal

pub loop-place-init : goal.loop-place-init
loop-place-init c = record {
  parts = refl;
  hints = refl;
  front = λ e h. refl;
  none = none_at_end (IsNefIn c.args.table.now c.args.r) (length c.args.table.now.normals.items) (λ p nef. nef.count) c.args.parts.now
      c.requires.nef.count;
}

pub beginning_of-begin-requires-clause-growth : goal.beginning_of-begin-requires-clause-growth
beginning_of-begin-requires-clause-growth c =
    let i = c.loop-place.invariant in
    let k = c.loop-place.place - 1 in
    let e = i.parts in
    let within : k ≤ length c.args.parts.now = omega arith in
    let there : k ≤ length c.loop-place.parts = omega arith in
    subst IsGrowth (sym (same_front k c.args.parts.now c.loop-place.parts within there (λ j h. i.front j (omega (arith, h)))))
    (growth_front c.args.r c.args.parts.now c.requires.few c.requires.nef.growth k within)

pub returns-then-complete-clause-follows : goal.returns-then-complete-clause-follows
returns-then-complete-clause-follows c =
    let old = c.args.parts.now in
    let i = c.loop-place.invariant in
    let m = c.loop-place.place in
    let place = m - 1 in
    let next : m ≡ place + 1 = omega arith in
    let e = i.parts in
    let within : place < length old = omega arith in
    let there : place ≤ length c.loop-place.parts = omega arith in
    let count : c.beginning_of-begin.result.count ≡ place = c.beginning_of-begin.ensures.count ∙ length-take-le place c.loop-place.parts there in
    let from_is : part_at c.loop-place.parts place + 1 ≡ part_at old place + 1 = ap (λ (n : ℕ). n + 1) (i.front place (omega arith)) in
    found_next (IsNefIn c.args.table.now c.args.r) (length c.args.table.now.normals.items) (λ p nef. nef.count) old c.requires.nef.count
    c.loop-place.parts place (part_at c.loop-place.parts place + 1) within (λ j h. i.front j (omega (arith, h))) from_is
    (subst (λ (k : ℕ). (p : List ℕ) → IsNefIn c.args.table.now c.args.r p → AgreesOn k old p → NumbersLess old p → ⊥) next i.none)
    c.complete.new.parts
    (subst (λ (k : ℕ). Completes (IsNefIn c.args.table.now c.args.r) k (part_at c.loop-place.parts place + 1) c.loop-place.parts c.complete.new.parts true)
    count c.if-complete.ensures.completes)

pub loop-place-preserved : goal.loop-place-preserved
loop-place-preserved c =
    let old = c.args.parts.now in
    let i = c.loop-place.invariant in
    let m = c.loop-place.place in
    let place = m - 1 in
    let next : m ≡ place + 1 = omega arith in
    let e = i.parts in
    let within : place < length old = omega arith in
    let there : place ≤ length c.loop-place.parts = omega arith in
    let count : c.beginning_of-begin.result.count ≡ place = c.beginning_of-begin.ensures.count ∙ length-take-le place c.loop-place.parts there in
    let from_is : part_at c.loop-place.parts place + 1 ≡ part_at old place + 1 = ap (λ (n : ℕ). n + 1) (i.front place (omega arith)) in
    let nothing : Completes (IsNefIn c.args.table.now c.args.r) place (part_at c.loop-place.parts place + 1) c.loop-place.parts c.complete.new.parts false =
    subst (λ (k : ℕ). Completes (IsNefIn c.args.table.now c.args.r) k (part_at c.loop-place.parts place + 1) c.loop-place.parts c.complete.new.parts false)
    count c.if-complete.ensures.completes in
    record {
      parts = c.complete.ensures.parts ∙ i.parts;
      hints = c.complete.ensures.hints ∙ i.hints;
      front = λ j h. nothing.0 j h ∙ i.front j (omega (arith, h));
      none = none_before (IsNefIn c.args.table.now c.args.r) (length c.args.table.now.normals.items) (λ p nef. nef.count) old c.requires.nef.count
          c.loop-place.parts place (part_at c.loop-place.parts place + 1) within (λ j h. i.front j (omega (arith, h))) from_is
          (subst (λ (k : ℕ). (p : List ℕ) → IsNefIn c.args.table.now c.args.r p → AgreesOn k old p → NumbersLess old p → ⊥) next i.none)
          nothing.1;
    }
