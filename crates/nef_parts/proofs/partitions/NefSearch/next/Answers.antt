use Rattle.std.proofs.Common.{◌∙◌, ℕ, true, false, List, length, refl, sym, ap, subst}
use Rattle.nef_parts.specs.Partitions.{ArePointsOf}
use Rattle.nef_parts.specs.Listing.{given_of}
use Rattle.nef_parts.specs.steps.Nef.{IsNefIn, lists_in}
use Rattle.nef_parts.specs.steps.Completions.{Steps}
use Rattle.nef_parts.proofs.Giving.{same_copy, none_more, step_nef, step_counts, step_given}
use Rattle.nef_parts.proofs.partitions.NefSearch.next.Goals as goal

pub returns-then-not-step-clause-given : goal.returns-then-not-step-clause-given
returns-then-not-step-clause-given c =
    let t = c.self.inside.table in
    let r = c.self.inside.codim in
    let last = c.self.inside.last.items in
    let new = c.step.new.parts.items in
    let same = same_copy last c.in_ok-part_of.part_of.items c.in_ok-part_of.ensures.cases.0 in
    let steps : Steps (IsNefIn t r) c.self.inside.started last new false =
    subst (λ (xs : List ℕ). Steps (IsNefIn t r) c.self.inside.started xs new false) same c.if-not-step.ensures.steps in
    rw (← c.self.view_is) (
      refl,
      none_more t c.self.invariant.table r last new c.self.inside.started c.self.invariant.at steps,
    )

pub points_of-requires-clause-nef : goal.points_of-requires-clause-nef
points_of-requires-clause-nef c =
    let t = c.self.inside.table in
    let r = c.self.inside.codim in
    let last = c.self.inside.last.items in
    let new = c.step.new.parts.items in
    let same = same_copy last c.in_ok-part_of.part_of.items c.in_ok-part_of.ensures.cases.0 in
    let steps : Steps (IsNefIn t r) c.self.inside.started last new true =
    subst (λ (xs : List ℕ). Steps (IsNefIn t r) c.self.inside.started xs new true) same c.if-not-step.ensures.steps in
    subst (IsNefIn t r) (sym c.deref.ensures.value) (step_nef t c.self.invariant.table r last new c.self.inside.started steps)

pub invariant_of-self-2 : goal.invariant_of-self-2
invariant_of-self-2 c =
    let t = c.self.inside.table in
    let r = c.self.inside.codim in
    let last = c.self.inside.last.items in
    let new = c.step.new.parts.items in
    let same = same_copy last c.in_ok-part_of.part_of.items c.in_ok-part_of.ensures.cases.0 in
    let copy = same_copy new c.in_ok-self-inside.field-0.items c.in_ok-self-inside.ensures.cases.0 in
    let steps : Steps (IsNefIn t r) c.self.inside.started last new true =
    subst (λ (xs : List ℕ). Steps (IsNefIn t r) c.self.inside.started xs new true) same c.if-not-step.ensures.steps in
    let i = c.self.invariant in
    record {
      table = i.table;
      some = i.some;
      few = i.few;
      whole = ap (λ (xs : List ℕ). length xs) copy ∙ (c.step.ensures.parts ∙ (ap (λ (xs : List ℕ). length xs) same ∙ i.whole));
      room = i.room;
      hinted = c.step.ensures.hints ∙ i.hinted;
      at = λ e. subst (IsNefIn t r) (sym copy) (step_nef t i.table r last new c.self.inside.started steps);
    }

pub returns-clause-given : goal.returns-clause-given
returns-clause-given c =
    let t = c.self.inside.table in
    let r = c.self.inside.codim in
    let last = c.self.inside.last.items in
    let new = c.step.new.parts.items in
    let same = same_copy last c.in_ok-part_of.part_of.items c.in_ok-part_of.ensures.cases.0 in
    let copy = same_copy new c.in_ok-self-inside.field-0.items c.in_ok-self-inside.ensures.cases.0 in
    let steps : Steps (IsNefIn t r) c.self.inside.started last new true =
    subst (λ (xs : List ℕ). Steps (IsNefIn t r) c.self.inside.started xs new true) same c.if-not-step.ensures.steps in
    let i = c.self.invariant in
    rw (← c.self.view_is) (
      refl,
      refl,
      ap (λ (xs : List ℕ). given_of (lists_in t) r true xs) copy ∙ step_counts t i.table r last new c.self.inside.started i.at steps,
      step_given t i.table r last new c.self.inside.started i.at steps,
      subst (λ (ps : List ℕ). ArePointsOf (lists_in t) r ps c.points_of.new.points.items) c.deref.ensures.value c.points_of.ensures,
    )
