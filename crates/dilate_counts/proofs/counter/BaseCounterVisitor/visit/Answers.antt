use Rattle.std.proofs.Common.{ℕ, length, sym, ap, ◌∙◌, subst}
use Rattle.std.proofs.lemmas.List.{with_items_is}
use Rattle.base_counts.specs.Visited.{IsFar, IsTightAt}
use Rattle.dilate_counts.specs.Counters.{CounterState}
use Rattle.dilate_counts.proofs.Visits.{counter_on, visited, passed_by}
use Rattle.dilate_counts.proofs.counter.BaseCounterVisitor.visit.Goals as goal

pub invariant_of-self : goal.invariant_of-self
invariant_of-self c =
    let s = c.self.inside in
    let heights = ap length (with_items_is s.base c.tight_at.new.base (c.tight_at.auto.base ∙ c.deref_mut-2.ensures.len)) in
    let words = ap length (with_items_is s.tight c.tight_at.new.tight (c.tight_at.auto.tight ∙ c.deref_mut.ensures.len)) in
    counter_on s.dim (length s.base.items) s.vectors.now (length s.tight.items) s.sets.now.rows s.classes.row_words s.classes.rows s.seen.items s.counts.items
    s.left c.self.invariant c.if-self-eq0.false _ _ _ c.count_in.new.classes.rows c.deref_mut-in-Some.result.now c.count_in.new.seen _
    c.deref_mut-in-Some-2.result.now c.count_in.new.counts _ (heights ∙ c.tight_at.auto.base ∙ ap length c.deref_mut-2.ensures.value)
    (words ∙ c.tight_at.auto.tight ∙ ap length c.deref_mut.ensures.value) c.count_in.ensures.row_words c.deref_mut-in-Some.ensures.value
    c.deref_mut-in-Some-2.ensures.value
    (with_items_is s.seen c.count_in.new.seen (c.count_in.auto.seen ∙ c.deref_mut-in-Some.ensures.len))
    (with_items_is s.counts c.count_in.new.counts (c.count_in.auto.counts ∙ c.deref_mut-in-Some-2.ensures.len))
    c.count_in.ensures.places c.count_in.ensures.whole c.count_in.ensures.clear c.count_in.ensures.seen_low c.count_in.ensures.counts_low

pub returns-in-Some-clause-visits : goal.returns-in-Some-clause-visits
returns-in-Some-clause-visits c =
    let s = c.self.inside in
    let heights = ap length (with_items_is s.base c.tight_at.new.base (c.tight_at.auto.base ∙ c.deref_mut-2.ensures.len)) in
    let words = with_items_is s.tight c.tight_at.new.tight (c.tight_at.auto.tight ∙ c.deref_mut.ensures.len) in
    let dimension = c.requires.dimension ∙ sym (ap (λ (state : CounterState). state.dim) c.self.view_is) in
    rw (← c.self.view_is) (visited s.dim (length s.base.items) s.vectors.now (length s.tight.items) s.sets.now.rows s.classes.row_words s.classes.rows
    s.seen.items s.counts.items s.left c.self.invariant c.if-self-eq0.false c.args.x.now dimension _ c.count_in.new.classes.rows
    c.deref_mut-in-Some.result.now c.count_in.new.seen _ c.deref_mut-in-Some-2.result.now c.count_in.new.counts _ c.tight_at.new.tight c.deref.result.now
    c.in-Some.degree (heights ∙ c.tight_at.auto.base ∙ ap length c.deref_mut-2.ensures.value) c.deref_mut-in-Some.ensures.value
    c.deref_mut-in-Some-2.ensures.value
    (with_items_is s.seen c.count_in.new.seen (c.count_in.auto.seen ∙ c.deref_mut-in-Some.ensures.len))
    (with_items_is s.counts c.count_in.new.counts (c.count_in.auto.counts ∙ c.deref_mut-in-Some-2.ensures.len))
    (c.deref.ensures.value ∙ words) c.count_in.ensures.whole
    (subst (λ (r : ℕ). IsTightAt r s.vectors.now c.args.x.now c.in-Some.degree c.tight_at.new.tight) (ap length c.deref_mut-2.ensures.value)
    c.in-Some.ensures.degree.1) c.count_in.ensures.totals)

pub returns-in_default-clause-visits : goal.returns-in_default-clause-visits
returns-in_default-clause-visits c =
    let s = c.self.inside in
    let heights = ap length (with_items_is s.base c.tight_at.new.base (c.tight_at.auto.base ∙ c.deref_mut-2.ensures.len)) in
    let dimension = c.requires.dimension ∙ sym (ap (λ (state : CounterState). state.dim) c.self.view_is) in
    rw (← c.self.view_is) (passed_by s.dim (length s.base.items) s.vectors.now (length s.tight.items) s.sets.now.rows s.classes.row_words s.classes.rows
    s.seen.items s.counts.items s.left c.self.invariant c.if-self-eq0.false c.args.x.now dimension _
    (heights ∙ c.tight_at.auto.base ∙ ap length c.deref_mut-2.ensures.value)
    (subst (λ (r : ℕ). IsFar r s.vectors.now c.args.x.now) (ap length c.deref_mut-2.ensures.value) c.in_default.ensures.degree))
