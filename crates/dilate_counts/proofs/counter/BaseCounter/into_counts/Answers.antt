use Rattle.std.proofs.Common.{ℕ, List, length, sym, ◌∙◌, subst}
use Rattle.std.proofs.lemmas.List.{with_items_is}
use Rattle.dilate_counts.specs.Classes.{AreShared, HaveFewTotals}
use Rattle.dilate_counts.specs.Counters.{CounterState}
use Rattle.dilate_counts.proofs.counter.BaseCounter.into_counts.Goals as goal

pub share_all-requires-clause-few : goal.share_all-requires-clause-few
share_all-requires-clause-few c =
    let s = c.self.inside in
    subst (λ (seen : List ℕ). HaveFewTotals s.sets.now.rows s.classes.rows seen c.deref_mut.result.now) (sym c.deref.ensures.value)
    (subst (λ (counts : List ℕ). HaveFewTotals s.sets.now.rows s.classes.rows s.seen.items counts) (sym c.deref_mut.ensures.value)
    (subst (λ (state : CounterState). HaveFewTotals state.rows state.classes state.seen state.counts) (sym c.self.view_is) c.requires.few))

pub returns-clause-shared : goal.returns-clause-shared
returns-clause-shared c =
    let s = c.self.inside in
    rw (← c.self.view_is) (subst (AreShared s.sets.now.rows s.classes.rows s.seen.items (length s.classes.rows) s.counts.items)
    (sym (with_items_is s.counts c.share_all.new.counts (c.share_all.auto.counts ∙ c.deref_mut.ensures.len)))
    (subst (λ (seen : List ℕ). AreShared s.sets.now.rows s.classes.rows seen (length s.classes.rows) s.counts.items c.share_all.new.counts)
    c.deref.ensures.value
    (subst (λ (counts : List ℕ). AreShared s.sets.now.rows s.classes.rows c.deref.result.now (length s.classes.rows) counts c.share_all.new.counts)
    c.deref_mut.ensures.value c.share_all.ensures.shared)))
