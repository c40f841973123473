use Rattle.std.proofs.Common.{◌≡◌, ◌≤◌, ℕ, List, [], ◌∷◌, ◌++◌, nat_lt, cond, length, slice_index_or, sym, ap, ◌∙◌, arith}
use Rattle.std.proofs.lemmas.List.{take_all}
use Rattle.std.proofs.lemmas.List.Elements.{filter_more}
use Rattle.std.specs.List.{filter, range_with_len}
use Rattle.poset_g.specs.Stored.{find_at}
use Rattle.poset_g.specs.FillSteps.{is_between, between}
use Rattle.poset_g.proofs.Ranges.{filter_both, few_kept}
use Rattle.poset_g.proofs.sums.find_between.Goals as goal

pub loop-i-init : goal.loop-i-init
loop-i-init c = record { faces = c.clear.ensures.items }

pub loop-i-preserved : goal.loop-i-preserved
loop-i-preserved c = record {
  faces = c.in_ok-push_with.ensures.faces
      ∙ ap (λ (xs : List ℕ). xs ++ cond (nat_lt 0 (find_at c.args.places.now (slice_index_or c.args.higher.now c.loop-i.i 0) c.args.to)) ((slice_index_or c.args.higher.now c.loop-i.i 0) ∷ []) []) c.loop-i.invariant.faces
      ∙ sym (filter_more (λ z. nat_lt 0 (find_at c.args.places.now z c.args.to)) c.args.higher.now c.loop-i.i 0 c.loop-i-test.true);
}

all_taken : (c : goal.After-loop-i) → c.loop-i.faces.items ≡ between c.args.places.now c.args.from c.args.to
all_taken c = c.loop-i.invariant.faces
    ∙ ap (filter (λ z. nat_lt 0 (find_at c.args.places.now z c.args.to))) (take_all c.loop-i.i c.args.higher.now (ended c) ∙ c.requires.above)
    ∙ filter_both (λ z. nat_lt 0 (find_at c.args.places.now c.args.from z)) (λ z. nat_lt 0 (find_at c.args.places.now z c.args.to))
    (range_with_len 0 c.args.places.now.count)
  where
    ended : (c : goal.After-loop-i) → length c.args.higher.now ≤ c.loop-i.i
    ended c = let e = c.loop-i-test.false in omega arith

pub returns-clause-faces : goal.returns-clause-faces
returns-clause-faces c = all_taken c

pub returns-clause-few : goal.returns-clause-few
returns-clause-few c = let e = few_kept (is_between c.args.places.now c.args.from c.args.to) c.args.places.now.count c.loop-i.faces.items (all_taken c) in
    let f = c.requires.few in omega arith
